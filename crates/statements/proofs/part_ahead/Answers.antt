-- The loop's invariant, `Counting`: the part from the start on is the part from here on, n of whose statements are passed.
-- Assumes nothing.
use native.Mathlib.Omega.{arith}
use Rattle.whens.proofs.AheadLaws.{less_ahead}
use Rattle.statements.proofs.LookingLaws.{counting_first, part_stop, goes_on, count_room, part_next}
use Rattle.statements.proofs.part_ahead.Goals as goal

pub loop-depth-init : goal.loop-depth-init
loop-depth-init c = counting_first _ _

pub returns-then-k-depth : goal.returns-then-k-depth
returns-then-k-depth c = part_stop _ _ _ _ _ _ _ _ c.loop-depth.invariant c.next_word-w.ensures c.if-k-depth.true

pub depth_after-depth-requires : goal.depth_after-depth-requires
depth_after-depth-requires c =
    let l = count_room _ _ _ _ _ _ _ _ c.loop-depth.invariant c.next_word-w.ensures c.if-k-depth.false in
    omega arith

pub count_after-n-requires : goal.count_after-n-requires
count_after-n-requires c =
    let l = count_room _ _ _ _ _ _ _ _ c.loop-depth.invariant c.next_word-w.ensures c.if-k-depth.false in
    omega arith

pub loop-depth-smaller : goal.loop-depth-smaller
loop-depth-smaller c = less_ahead _ _ _ _ _ c.next_word-w.ensures (goes_on _ _ _ _ _ _ _ _ c.loop-depth.invariant c.next_word-w.ensures c.if-k-depth.false)

pub loop-depth-preserved : goal.loop-depth-preserved
loop-depth-preserved c = part_next _ _ _ _ _ _ _ _ c.loop-depth.invariant c.next_word-w.ensures c.if-k-depth.false _ _ c.depth_after-depth.ensures c.count_after-n.ensures
