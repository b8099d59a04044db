-- `fixed_word` meets its contract: each word of the table is checked lane by lane.
-- Assumes nothing.
use Rattle.lanes.proofs.LaneLaws.{fixed_lanes, fixed}
use Rattle.lanes.proofs.words.fixed_word.Goals as goal

pub returns : goal.returns
unfolding fixed
returns c = fixed_lanes _ c.requires
