-- `counted_lanes`: the lanes in which the present classes among the first i have a child.
-- Assumes nothing.
use borrow.Author.Tests.{eq-eqb, ne_eqb}
use Rattle.lanes.proofs.CountingLaws.{lanes_start, lanes_more, lanes_past, lanes_end}
use Rattle.lanes.proofs.counting.counted_lanes.Goals as goal
use Rattle.lanes.proofs.counting.counted_lanes.Goals.{then-p-i-eq1, else-p-i-eq1}

pub loop-i-init : goal.loop-i-init
loop-i-init c = lanes_start _ _ _

pub loop-i-preserved : goal.loop-i-preserved
loop-i-preserved c =
    elim c.if-p-i-eq1.branch [
      | then-p-i-eq1 w ↦ rw w.word-is (lanes_more _ _ _ _ _ c.loop-i-test.true c.loop-i.invariant _ _ c.requires.0 c.requires.1 w.block_word-word.ensures (eq-eqb _ _ w.if-p-i-eq1.true))
      | else-p-i-eq1 w ↦ rw w.word-is (lanes_past _ _ _ _ _ c.loop-i-test.true c.loop-i.invariant (ne_eqb _ _ w.if-p-i-eq1.false))
    ]

pub returns : goal.returns
returns c = lanes_end _ _ _ _ _ c.loop-i-test.false c.loop-i.invariant
