-- `had_else` meets its contract.
-- Assumes nothing.
use Rattle.recognised.proofs.Watches.{had_other, had_none, had_marked, had_watched}
use Rattle.recognised.proofs.had_else.Goals as goal

pub returns-then-kind-ne-ELSE : goal.returns-then-kind-ne-ELSE
returns-then-kind-ne-ELSE c = had_other _ _ _ _ _ _ c.if-kind-ne-ELSE.true

pub returns-then-ifs-eq0 : goal.returns-then-ifs-eq0
returns-then-ifs-eq0 c = had_none _ _ _ _ _ _ c.if-ifs-eq0.true

pub returns-then-ifs-marks : goal.returns-then-ifs-marks
returns-then-ifs-marks c = had_marked _ _ _ _ _ _ c.if-ifs-eq0.false c.if-ifs-marks.true

pub returns : goal.returns
returns c = had_watched _ _ _ _ _ _ _ c.if-ifs-eq0.false c.watch.ensures
