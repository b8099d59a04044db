use Rattle.recognised.proofs.Watches.{begun_here, begun_before}
use Rattle.recognised.proofs.begun.Goals as goal

pub returns-then-ifs-eq0 : goal.returns-then-ifs-eq0
returns-then-ifs-eq0 c = begun_here _ _ _ c.if-ifs-eq0.true

pub returns : goal.returns
returns c = begun_before _ _ _ c.if-ifs-eq0.false
