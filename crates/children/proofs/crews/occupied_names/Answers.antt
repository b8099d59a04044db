-- `occupied_names` meets its contract: the union for all children, one set for a class below 8, and no name for any other class.
-- Assumes nothing.
use native.Mathlib.Omega.{arith}
use Rattle.children.proofs.CrewLaws.{names_all, names_one, names_none}
use Rattle.children.proofs.crews.occupied_names.Goals as goal

pub returns-then-i-lt8 : goal.returns-then-i-lt8
returns-then-i-lt8 c = rw c.in-OfClass.is (names_one _ _)

pub returns-in-Everyone : goal.returns-in-Everyone
returns-in-Everyone c = rw c.in-Everyone.is (names_all _ _ c.union.ensures)

pub returns-else-i-lt8 : goal.returns-else-i-lt8
returns-else-i-lt8 c = rw c.in-OfClass.is (names_none _ _ (omega arith))
