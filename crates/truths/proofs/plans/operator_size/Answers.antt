-- `operator_size`: the sizes of the operands are read behind the operator.
-- Assumes nothing.
use Rattle.truths.proofs.PlanLaws.{size_two, size_one}
use Rattle.truths.proofs.plans.operator_size.Goals as goal

pub returns-in-Both : goal.returns-in-Both
returns-in-Both c = let a = c.args in size_two _ a.i a.sizes.now _ _ c.size_at-left.ensures.0 c.size_at-right.ensures.0 c.in-Both.is

pub returns-in-Opposite : goal.returns-in-Opposite
returns-in-Opposite c = let a = c.args in size_one _ a.i a.sizes.now _ c.size_at-left.ensures.0 c.in-Opposite.is
