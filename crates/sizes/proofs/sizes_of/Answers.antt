-- The loop's invariant, `Counting`: what is counted and what is left come to what is counted of all; its measure is what is left of the text.
-- Assumes nothing.
use native.Mathlib.Omega.{arith}
use Rattle.sizes.proofs.Turns.{counting_start, counting_small, counting_below, counting_more, counting_end}
use Rattle.sizes.proofs.Sized.{sized}
use Rattle.sizes.proofs.sizes_of.Goals as goal

pub loop-word-init : goal.loop-word-init
loop-word-init c = counting_start _

pub returns-then-kind-eq-END : goal.returns-then-kind-eq-END
returns-then-kind-eq-END c = sized (counting_end c.loop-word.invariant c.next_word-word.ensures c.if-kind-eq-END.true)

pub open_after-ifs-requires : goal.open_after-ifs-requires
open_after-ifs-requires c =
    let s = counting_small c.loop-word.invariant c.next_word-word.ensures c.if-kind-eq-END.false in
    omega (arith, c.loop-word.invariant.few)

pub counted-n-requires : goal.counted-n-requires
counted-n-requires c = counting_below c.loop-word.invariant c.next_word-word.ensures _ c.if-kind-eq-END.false (omega arith)

pub loop-word-smaller : goal.loop-word-smaller
loop-word-smaller c =
    let w = c.next_word-word.ensures in
    let h = c.if-kind-eq-END.false in
    omega (arith, w.onward, w.moves h, w.inside h)

pub loop-word-preserved : goal.loop-word-preserved
loop-word-preserved c = counting_more c.loop-word.invariant c.next_word-word.ensures c.if-kind-eq-END.false c.acting_after-acting.ensures c.open_after-ifs.ensures c.counted-n.ensures
