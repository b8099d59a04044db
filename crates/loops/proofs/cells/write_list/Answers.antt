-- `write_list`: the pairs of the cells so far that k chooses are written at the head, `Writing`.
-- Assumes nothing.
use native.Mathlib.Omega.{arith}
use lib.Seq.{lt-length-set}
use Rattle.loops.proofs.WritingLaws.{writing_start, writing_more, writing_past, writing_end}
use Rattle.loops.proofs.cells.write_list.Goals as goal
use Rattle.loops.proofs.cells.write_list.Goals.{then-k-i-eq1, else-k-i-eq1}

pub loop-i-init : goal.loop-i-init
loop-i-init c = writing_start _ _ _ _ _ c.requires.1

pub bounds-out-at-then-k-i-eq1 : goal.bounds-out-at-then-k-i-eq1
bounds-out-at-then-k-i-eq1 c = lt-length-set c.loop-i.out _ _ (omega arith)

pub loop-i-preserved : goal.loop-i-preserved
loop-i-preserved c =
    elim c.if-k-i-eq1.branch [
      | then-k-i-eq1 w ↦ rw (w.out-is, w.at-is) (writing_more _ _ _ _ _ _ _ _ c.loop-i.invariant c.loop-i-test.true w.if-k-i-eq1.true)
      | else-k-i-eq1 w ↦ rw (w.out-is, w.at-is) (writing_past _ _ _ _ _ _ _ _ c.loop-i.invariant c.loop-i-test.true w.if-k-i-eq1.false)
    ]

pub returns : goal.returns
returns c = writing_end _ _ _ _ _ _ _ _ c.loop-i.invariant c.loop-i-test.false
