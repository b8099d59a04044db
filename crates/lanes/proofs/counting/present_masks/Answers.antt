-- `present_masks`: the masks and low words of the first i classes.
-- Assumes nothing.
use Rattle.lanes.proofs.CountingLaws.{counted_more}
use Rattle.lanes.proofs.counting.present_masks.Goals as goal

pub loop-i-preserved : goal.loop-i-preserved
loop-i-preserved c = counted_more _ _ _ _ c.loop-i.invariant c.loop-i-test.true _ _ c.cells_mask-mask.ensures c.low_word.ensures
