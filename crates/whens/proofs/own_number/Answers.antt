-- The table's names and those behind it are the own states.
-- Assumes nothing.
use Rattle.whens.proofs.AheadLaws.{own_told}
use Rattle.whens.proofs.own_number.Goals as goal

pub returns : goal.returns
returns c = own_told _ _ _ _ _ _ _ c.requires c.number_of.ensures c.found_number.ensures
