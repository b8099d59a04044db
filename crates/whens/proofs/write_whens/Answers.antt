-- The loop's invariant, `Turning`: with the when clauses that are left the buffer is as it is to be.
-- Assumes nothing.
use native.Mathlib.Omega.{arith}
use Rattle.whens.proofs.AheadLaws.{less_ahead}
use Rattle.whens.proofs.WritingLaws.{first_turn, whens_end, count_room, whens_pass, whens_put}
use Rattle.whens.proofs.write_whens.Goals as goal

pub loop-table-init : goal.loop-table-init
loop-table-init c = first_turn _ _ _ (omega arith)

pub returns-then-k-eq-END : goal.returns-then-k-eq-END
returns-then-k-eq-END c = whens_end _ _ _ _ _ _ _ _ _ _ c.loop-table.invariant c.next_word-w.ensures c.if-k-eq-END.true (let e = c.loop-table.invariant.same_length in omega arith)

pub guards_after-n-requires : goal.guards_after-n-requires
guards_after-n-requires c =
    let l = count_room _ _ _ _ _ _ _ _ _ _ c.loop-table.invariant c.next_word-w.ensures c.if-k-eq-END.false in
    omega arith

pub put_when-end-requires : goal.put_when-end-requires
put_when-end-requires c = c.hold-own.ensures

pub loop-table-smaller-then-k-eq-WHEN : goal.loop-table-smaller-then-k-eq-WHEN
loop-table-smaller-then-k-eq-WHEN c = less_ahead _ _ _ _ _ c.next_word-w.ensures c.if-k-eq-END.false

pub loop-table-preserved-then-k-eq-WHEN : goal.loop-table-preserved-then-k-eq-WHEN
loop-table-preserved-then-k-eq-WHEN c =
    whens_put _ _ _ _ _ _ _ _ _ _ c.loop-table.invariant c.next_word-w.ensures c.if-k-eq-END.false _ c.guards_after-n.ensures c.if-k-eq-WHEN.true _ _
    c.put_when-end.ensures

pub loop-table-smaller : goal.loop-table-smaller
loop-table-smaller c = less_ahead _ _ _ _ _ c.next_word-w.ensures c.if-k-eq-END.false

pub loop-table-preserved : goal.loop-table-preserved
loop-table-preserved c = whens_pass _ _ _ _ _ _ _ _ _ _ c.loop-table.invariant c.next_word-w.ensures c.if-k-eq-END.false _ c.guards_after-n.ensures c.if-k-eq-WHEN.false
