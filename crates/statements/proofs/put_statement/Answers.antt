-- By the kind.
-- Assumes nothing.
use native.Mathlib.Omega.{arith}
use Rattle.statements.proofs.PuttingLaws.{as_move, as_do, as_if}
use Rattle.statements.proofs.put_statement.Goals as goal

pub returns-in-8 : goal.returns-in-8
returns-in-8 c = as_move _ _ _ _ _ _ _ _ _ _ c.in-8.is c.put_move.ensures

pub returns-in-9 : goal.returns-in-9
returns-in-9 c = as_do _ _ _ _ _ _ _ _ _ _ (λ z. omega arith) c.in-9.is c.put_do.ensures

pub returns-in_default : goal.returns-in_default
returns-in_default c = as_if _ _ _ _ _ _ _ _ _ _ (λ z. omega arith) (λ z. omega arith) c.put_if.ensures
