use native.Mathlib.Omega.{arith}
use Rattle.recognised.proofs.Watches.{watch_none, watch_on, watch_end, watch_done}
use Rattle.recognised.proofs.watch.Goals as goal

pub loop-at-init : goal.loop-at-init
loop-at-init c = watch_none _ _ _ _

pub returns-then-kind-eq-END : goal.returns-then-kind-eq-END
returns-then-kind-eq-END c = watch_end _ _ _ _ _ _ _ _ _ _ c.loop-at-test.true c.loop-at.invariant c.next_word-word.ensures c.if-kind-eq-END.true

pub count-level-requires : goal.count-level-requires
count-level-requires c =
    let n = c.next_word-word.ensures in
    let l = c.loop-at.invariant.low in
    let o = n.onward in
    let m = n.moves c.if-kind-eq-END.false in
    omega (arith, l, o, m)

pub loop-at-smaller : goal.loop-at-smaller
loop-at-smaller c =
    let n = c.next_word-word.ensures in
    let o = n.onward in
    let m = n.moves c.if-kind-eq-END.false in
    let t = c.loop-at-test.true in
    omega (arith, o, m, t)

pub loop-at-preserved : goal.loop-at-preserved
loop-at-preserved c =
    watch_on _ _ _ _ _ _ _ _ _ _ _ _ c.loop-at-test.true c.loop-at.invariant c.next_word-word.ensures c.if-kind-eq-END.false
    c.count-level.ensures c.seen_after-seen.ensures

pub returns : goal.returns
returns c = watch_done _ _ _ _ _ _ _ c.loop-at.invariant c.loop-at-test.false
