-- The loop's invariant, `Laying`: whoever writes the records that are left has written all; its measure is what is left of the text.
-- Assumes nothing.
use native.Mathlib.Omega.{arith}
use borrow.Author.Rules.{rules}
use Rattle.clauses.proofs.Turns.{laying_start, laying_less, states_put, states_past, states_end}
use Rattle.clauses.proofs.Writes.{writes_states}
use Rattle.clauses.proofs.write_states.Goals as goal

pub loop-word-init : goal.loop-word-init
loop-word-init c = laying_start _ _ _ _ (search rules)

pub returns-then-kind-eq-END : goal.returns-then-kind-eq-END
returns-then-kind-eq-END c = writes_states _ _ _ _ _ (states_end c.next_word-word.ensures c.loop-word.invariant c.if-kind-eq-END.true (search rules))

pub loop-word-smaller-then-kind-eq-STATE : goal.loop-word-smaller-then-kind-eq-STATE
loop-word-smaller-then-kind-eq-STATE c =
    let l = laying_less _ c.loop-word.invariant c.next_word-word.ensures c.if-kind-eq-END.false in
    omega arith

pub loop-word-preserved-then-kind-eq-STATE : goal.loop-word-preserved-then-kind-eq-STATE
loop-word-preserved-then-kind-eq-STATE c =
    states_put c.next_word-word.ensures c.if-kind-eq-END.false c.put_state-end.auto.out c.loop-word.invariant c.if-kind-eq-STATE.true
    c.number_ahead-whens.ensures c.number_ahead-actions.ensures c.put_state-end.ensures

pub loop-word-smaller : goal.loop-word-smaller
loop-word-smaller c =
    let l = laying_less _ c.loop-word.invariant c.next_word-word.ensures c.if-kind-eq-END.false in
    omega arith

pub loop-word-preserved : goal.loop-word-preserved
loop-word-preserved c = states_past c.next_word-word.ensures c.loop-word.invariant c.if-kind-eq-END.false c.if-kind-eq-STATE.false
