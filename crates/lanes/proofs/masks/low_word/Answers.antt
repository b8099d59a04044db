-- `low_word`: the lanes that share one of the first j bits with the mask.
-- Assumes nothing.
use borrow.Author.Tests.{eq-eqb, ne_eqb}
use Rattle.lanes.proofs.MaskLaws.{low_start, low_more, low_past, low_end}
use Rattle.lanes.proofs.masks.low_word.Goals as goal
use Rattle.lanes.proofs.masks.low_word.Goals.{then-mask-j-eq1, else-mask-j-eq1}

pub loop-j-init : goal.loop-j-init
loop-j-init c = low_start _

pub loop-j-preserved : goal.loop-j-preserved
loop-j-preserved c =
    elim c.if-mask-j-eq1.branch [
      | then-mask-j-eq1 w ↦ rw w.word-is (low_more _ _ _ _ c.loop-j.invariant c.loop-j-test.true w.fixed_word-word.ensures (eq-eqb _ _ w.if-mask-j-eq1.true))
      | else-mask-j-eq1 w ↦ rw w.word-is (low_past _ _ _ c.loop-j.invariant c.loop-j-test.true (ne_eqb _ _ w.if-mask-j-eq1.false))
    ]

pub returns : goal.returns
returns c = low_end _ _ _ c.loop-j.invariant c.loop-j-test.false
