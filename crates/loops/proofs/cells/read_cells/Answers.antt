-- `read_cells`: after j pairs the code has read the first twenty of those that are present, and counted all, `Reading`.
-- Assumes nothing.
use Rattle.loops.proofs.CellLaws.{reading_start, reading_more, reading_full, reading_past, reading_end}
use Rattle.loops.proofs.cells.read_cells.Goals as goal
use Rattle.loops.proofs.cells.read_cells.Goals.{then-cell_present, else-cell_present, then-count-lt20, else-count-lt20}

pub loop-j-init : goal.loop-j-init
loop-j-init c = reading_start _ _

pub loop-j-preserved : goal.loop-j-preserved
loop-j-preserved c =
    elim c.if-cell_present.branch [
      | then-cell_present w ↦
          elim w.if-count-lt20.branch [
            | then-count-lt20 v ↦ rw (w.cell_classes-is, w.cell_names-is, w.count-is, v.cell_classes-is, v.cell_names-is)
                (reading_more _ _ _ _ _ _ c.loop-j.invariant c.loop-j-test.true _ _ c.class_numbered-class.ensures c.name_numbered-name.ensures _ c.cell_present.ensures w.if-cell_present.true)
            | else-count-lt20 v ↦ rw (w.cell_classes-is, w.cell_names-is, w.count-is, v.cell_classes-is, v.cell_names-is)
                (reading_full _ _ _ _ _ _ c.loop-j.invariant c.loop-j-test.true _ _ c.class_numbered-class.ensures c.name_numbered-name.ensures _ c.cell_present.ensures w.if-cell_present.true v.if-count-lt20.false)
          ]
      | else-cell_present w ↦ rw (w.cell_classes-is, w.cell_names-is, w.count-is)
          (reading_past _ _ _ _ _ _ c.loop-j.invariant c.loop-j-test.true _ _ c.class_numbered-class.ensures c.name_numbered-name.ensures _ c.cell_present.ensures w.if-cell_present.false)
    ]

pub returns : goal.returns
returns c = reading_end _ _ _ _ _ _ c.loop-j.invariant c.loop-j-test.false
