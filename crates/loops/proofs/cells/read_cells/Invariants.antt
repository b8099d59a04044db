-- `read_cells`: after j pairs the code has read the first twenty of those that are present, and counted all, `Reading`.
-- Assumes nothing.
use Rattle.loops.proofs.CellLaws.{Reading}
use Rattle.loops.proofs.cells.read_cells.Given as goal

abbrev pub invariant-loop-j : goal.invariant-loop-j
invariant-loop-j l = Reading l.classes l.present l.cell_classes l.cell_names l.count l.j
