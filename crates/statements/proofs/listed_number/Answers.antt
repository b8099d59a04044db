-- As it was found.
-- Assumes nothing.
use Rattle.statements.proofs.LookingLaws.{number_told}
use Rattle.statements.proofs.listed_number.Goals as goal

pub returns : goal.returns
returns c = number_told _ _ _ _ _ c.number_in.ensures c.found_number.ensures
