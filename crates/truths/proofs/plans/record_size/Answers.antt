-- `record_size`: an operator's is its operands' and its own record.
-- Assumes nothing.
use Rattle.truths.proofs.PlanLaws.{size_told}
use Rattle.truths.proofs.plans.record_size.Goals as goal

pub returns-in-Operator : goal.returns-in-Operator
returns-in-Operator c = size_told _ _ c.args.i c.args.sizes.now _ c.in-Operator.is c.operator_size.ensures
