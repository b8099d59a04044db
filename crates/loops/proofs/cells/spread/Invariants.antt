-- `spread`: from the last cell down, the sets show what is chosen of the cells from i on.
-- Assumes nothing.
-- the cell that was read is of a class below 8 and has a name below 32
use Rattle.loops.proofs.SpreadLaws.{Spreading}
use Rattle.loops.proofs.cells.spread.Given as goal

abbrev pub invariant-loop-i : goal.invariant-loop-i
invariant-loop-i l = Spreading l.cells.classes l.cells.names l.cells.count l.k l.sets l.i
