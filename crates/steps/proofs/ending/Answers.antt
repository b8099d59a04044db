use Rattle.steps.proofs.Going.{end_body, end_else, end_then}
use Rattle.steps.proofs.ending.Goals as goal

pub returns-then-ifs-eq0 : goal.returns-then-ifs-eq0
returns-then-ifs-eq0 c = end_body _ _ _ _ c.if-ifs-eq0.true c.actions.ensures

pub returns-then-had : goal.returns-then-had
returns-then-had c = end_else _ _ _ _ c.if-ifs-eq0.false c.if-had.true c.on.ensures

pub returns : goal.returns
returns c = end_then _ _ _ _ c.if-ifs-eq0.false c.if-had.false c.either.ensures
