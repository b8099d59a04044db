-- `action_for` meets its contract.
-- Assumes nothing.
use Rattle.known.proofs.RoleLaws.{for_action, for_no_action}
use Rattle.known.proofs.action_for.Goals as goal

pub returns-then-before-scope : goal.returns-then-before-scope
returns-then-before-scope c = for_action _ _ _ _ c.if-before-scope.true _ c.is_among.ensures

pub returns : goal.returns
returns c = for_no_action _ _ _ _ c.if-before-scope.false
