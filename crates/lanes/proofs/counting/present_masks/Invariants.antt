-- `present_masks`: the masks and low words of the first i classes.
-- Assumes nothing.
use Rattle.configurations.specs.Cells.{cells_of}
use Rattle.lanes.proofs.CountingLaws.{Counted}
use Rattle.lanes.proofs.counting.present_masks.Given as goal

abbrev pub invariant-loop-i : goal.invariant-loop-i
invariant-loop-i l = Counted (cells_of l.cells) l.i l.masks l.lows
