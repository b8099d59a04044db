-- By the kind.
-- Assumes nothing.
use native.Mathlib.Omega.{arith}
use Rattle.statements.proofs.PuttingLaws.{on_action, on_state, on_other}
use Rattle.statements.proofs.on_after.Goals as goal

pub returns-in-3 : goal.returns-in-3
returns-in-3 c = on_action _ _ c.in-3.is

pub returns-in-2 : goal.returns-in-2
returns-in-2 c = on_state _ _ (λ z. omega arith) c.in-2.is

pub returns-in_default : goal.returns-in_default
returns-in_default c = on_other _ _ (λ z. omega arith) (λ z. omega arith)
