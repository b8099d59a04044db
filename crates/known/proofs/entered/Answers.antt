-- `entered` meets its contract: a table filled anew behind state:, else the one that was lent.
-- Assumes nothing.
use mathlib.Core.Path.{refl}
use Rattle.known.proofs.RoleLaws.{entered_state, entered_action, entered_nothing}
use Rattle.known.proofs.entered.Goals as goal

pub returns-then-kind-eq-STATE : goal.returns-then-kind-eq-STATE
returns-then-kind-eq-STATE c = entered_state _ _ _ _ _ c.if-kind-eq-STATE.true _ _ _ c.hold-holding.ensures

pub returns-then-kind-eq-ACTION : goal.returns-then-kind-eq-ACTION
returns-then-kind-eq-ACTION c = entered_action _ _ _ _ _ _ _ _ c.requires refl c.if-kind-eq-STATE.false c.if-kind-eq-ACTION.true

pub returns : goal.returns
returns c = entered_nothing _ _ _ _ _ _ _ _ c.requires refl c.if-kind-eq-STATE.false c.if-kind-eq-ACTION.false
