-- By the kind.
-- Assumes nothing.
use native.Mathlib.Omega.{arith}
use Rattle.whens.proofs.AheadLaws.{one_more, none_below, none_above}
use Rattle.whens.proofs.guards_after.Goals as goal

pub returns-in-15-to-19 : goal.returns-in-15-to-19
returns-in-15-to-19 c = one_more _ _ (omega arith) (omega arith)

pub returns-in_default : goal.returns-in_default
returns-in_default c = none_below _ _ (omega arith)

pub returns-in_default-2 : goal.returns-in_default-2
returns-in_default-2 c = none_above _ _ (omega arith)
