-- `cell_present`: a class that the sheet has not, or the class's bit and the name's.
-- Assumes nothing.
use Rattle.loops.proofs.CellLaws.{cell_past, cell_here}
use mathlib.Core.Path.{sym}
use Rattle.loops.proofs.cells.cell_present.Goals as goal

pub returns-then-in_fours-i : goal.returns-then-in_fours-i
returns-then-in_fours-i c = sym (cell_past _ _ _ _ _ c.in_fours.ensures c.if-in_fours-i.true)

pub returns : goal.returns
returns c = cell_here _ _ _ _ _ _ _ c.in_fours.ensures c.if-in_fours-i.false c.name_set.ensures c.has_name.ensures
