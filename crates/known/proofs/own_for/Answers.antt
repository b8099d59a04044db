-- `own_for` meets its contract.
-- Assumes nothing.
use Rattle.known.proofs.RoleLaws.{for_own, for_no_own}
use Rattle.known.proofs.own_for.Goals as goal

pub returns-then-before : goal.returns-then-before
returns-then-before c = for_own _ _ _ c.if-before.true _ c.is_among.ensures

pub returns : goal.returns
returns c = for_no_own _ _ _ c.if-before.false
