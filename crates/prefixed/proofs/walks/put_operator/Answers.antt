-- `prefixed::walks::put_operator` meets its contract.
-- Assumes nothing.
use Rattle.prefixed.proofs.WalkLaws.{operator_done}
use Rattle.prefixed.proofs.walks.put_operator.Goals as goal

pub returns : goal.returns
returns c = operator_done _ _ _ c.operand_start-at.ensures c.put_record.ensures
