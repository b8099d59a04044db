-- The loop's invariant, `Turning`: with the statements that are left the buffer is as it is to be.
-- Assumes nothing.
use native.Mathlib.Omega.{arith}
use Rattle.whens.proofs.AheadLaws.{less_ahead}
use Rattle.statements.proofs.WritingLaws.{first_turn, statements_end, count_room, statements_pass, statements_put}
use Rattle.statements.proofs.write_statements.Goals as goal

pub loop-table-init : goal.loop-table-init
loop-table-init c = first_turn _ _ _ _ _ (omega arith)

pub returns-then-k-eq-END : goal.returns-then-k-eq-END
returns-then-k-eq-END c = statements_end _ _ _ _ _ _ _ _ _ _ _ _ _ c.loop-table.invariant c.next_word-w.ensures c.if-k-eq-END.true (let e = c.loop-table.invariant.same_length in omega arith)

pub guards_after-n-requires : goal.guards_after-n-requires
guards_after-n-requires c =
    let l = count_room _ _ _ _ _ _ _ _ _ _ _ _ _ c.loop-table.invariant c.next_word-w.ensures c.if-k-eq-END.false in
    omega arith

pub put_statement-end-requires : goal.put_statement-end-requires
put_statement-end-requires c = c.hold-own.ensures

pub loop-table-smaller-then-first : goal.loop-table-smaller-then-first
loop-table-smaller-then-first c = less_ahead _ _ _ _ _ c.next_word-w.ensures c.if-k-eq-END.false

pub loop-table-preserved-then-first : goal.loop-table-preserved-then-first
loop-table-preserved-then-first c =
    statements_put _ _ _ _ _ _ _ _ _ _ _ _ _ c.loop-table.invariant c.next_word-w.ensures c.if-k-eq-END.false _ c.guards_after-n.ensures _
    c.on_after-on.ensures (rw c.is_statement.ensures at c.if-first.true) _ _ c.put_statement-end.ensures

pub loop-table-smaller : goal.loop-table-smaller
loop-table-smaller c = less_ahead _ _ _ _ _ c.next_word-w.ensures c.if-k-eq-END.false

pub loop-table-preserved : goal.loop-table-preserved
loop-table-preserved c =
    statements_pass _ _ _ _ _ _ _ _ _ _ _ _ _ c.loop-table.invariant c.next_word-w.ensures c.if-k-eq-END.false _ c.guards_after-n.ensures _
    c.on_after-on.ensures (rw c.is_statement.ensures at c.if-first.false)
