-- By the kind.
-- Assumes nothing.
use native.Mathlib.Omega.{arith}
use Rattle.statements.proofs.LookingLaws.{depth_more, depth_same, depth_less}
use Rattle.statements.proofs.depth_after.Goals as goal

pub returns-in-11 : goal.returns-in-11
returns-in-11 c = depth_more _ _ c.in-11.is

pub returns-in-14 : goal.returns-in-14
returns-in-14 c = depth_less _ _ _ (λ z. omega arith) c.in-14.is (omega arith)

pub returns-in_default : goal.returns-in_default
returns-in_default c = depth_same _ _ (λ z. omega arith) (λ z. omega arith)
