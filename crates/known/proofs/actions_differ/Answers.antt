-- `actions_differ` meets its contract.
-- Assumes nothing.
use Rattle.known.proofs.RoleLaws.{differ_told, no_state}
use Rattle.known.proofs.actions_differ.Goals as goal

pub returns-then-kind-eq-STATE : goal.returns-then-kind-eq-STATE
returns-then-kind-eq-STATE c = differ_told _ _ c.if-kind-eq-STATE.true _ c.all_differ.ensures

pub returns : goal.returns
returns c = no_state _ _ c.if-kind-eq-STATE.false
