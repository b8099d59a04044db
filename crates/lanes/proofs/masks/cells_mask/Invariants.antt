-- `cells_mask`: the mask of the cells from i on.
-- Assumes nothing.
use Rattle.records.specs.Patterns.{pattern_as}
use Rattle.lanes.specs.Masks.{wanted}
use Rattle.lanes.proofs.MaskLaws.{Masking}
use Rattle.lanes.proofs.masks.cells_mask.Given as goal

abbrev pub invariant-loop-i : goal.invariant-loop-i
invariant-loop-i l = Masking (wanted (pattern_as l.pattern) l.set l.inside) l.cells.classes l.cells.names l.initial.i l.mask l.i
