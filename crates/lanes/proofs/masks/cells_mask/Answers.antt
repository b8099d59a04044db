-- `cells_mask`: the mask of the cells from i on.
-- Assumes nothing.
use native.Mathlib.Omega.{arith}
use mathlib.Core.Path.{sym, ◌∙◌}
use Rattle.lanes.proofs.MaskLaws.{masking_small, masking_start, masking_held, masking_past, masking_end}
use Rattle.lanes.proofs.masks.cells_mask.Goals as goal

pub loop-i-init : goal.loop-i-init
loop-i-init c = masking_start _ _ _ _

pub cell_wanted-requires : goal.cell_wanted-requires
cell_wanted-requires c = c.requires.1.name_small _

pub overflow_mul-mask : goal.overflow_mul-mask
overflow_mul-mask c = omega (arith, masking_small c.loop-i.invariant c.requires.0)

pub overflow_add-mask : goal.overflow_add-mask
overflow_add-mask c = omega (arith, masking_small c.loop-i.invariant c.requires.0)

pub loop-i-preserved-then-cell_wanted : goal.loop-i-preserved-then-cell_wanted
loop-i-preserved-then-cell_wanted c = masking_held c.loop-i.invariant c.loop-i-test.true (sym c.if-cell_wanted.true ∙ c.cell_wanted.ensures)

pub loop-i-preserved : goal.loop-i-preserved
loop-i-preserved c = masking_past c.loop-i.invariant c.loop-i-test.true (sym c.if-cell_wanted.false ∙ c.cell_wanted.ensures)

pub returns : goal.returns
returns c = masking_end c.loop-i.invariant c.loop-i-test.false
