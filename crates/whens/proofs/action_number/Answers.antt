-- As it was found.
-- Assumes nothing.
use Rattle.whens.proofs.AheadLaws.{action_told}
use Rattle.whens.proofs.action_number.Goals as goal

pub returns : goal.returns
returns c = action_told _ _ _ _ c.ahead.ensures c.found_number.ensures
