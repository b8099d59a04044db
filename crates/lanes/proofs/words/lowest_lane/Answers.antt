-- `lowest_lane`: the place of the lowest 1.
-- Assumes nothing.
use Rattle.lanes.proofs.LaneLaws.{lowest_one}
use Rattle.lanes.proofs.words.lowest_lane.Goals as goal

pub returns : goal.returns
returns c = lowest_one _ c.ranges.w.fits
