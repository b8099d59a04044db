-- As of the states.
-- Assumes nothing.
use native.Mathlib.Omega.{arith}
use borrow.Author.Rules.{rules}
use Rattle.clauses.proofs.Turns.{laying_start, laying_less, actions_put, actions_past, actions_end}
use Rattle.clauses.proofs.Writes.{writes_actions}
use Rattle.clauses.proofs.write_actions.Goals as goal

pub loop-word-init : goal.loop-word-init
loop-word-init c = laying_start _ _ _ _ (search rules)

pub returns-then-kind-eq-END : goal.returns-then-kind-eq-END
returns-then-kind-eq-END c = writes_actions _ _ _ _ _ _ (actions_end c.next_word-word.ensures _ c.loop-word.invariant c.if-kind-eq-END.true (search rules))

pub loop-word-smaller-then-kind-eq-ACTION : goal.loop-word-smaller-then-kind-eq-ACTION
loop-word-smaller-then-kind-eq-ACTION c =
    let l = laying_less _ c.loop-word.invariant c.next_word-word.ensures c.if-kind-eq-END.false in
    omega arith

pub loop-word-preserved-then-kind-eq-ACTION : goal.loop-word-preserved-then-kind-eq-ACTION
loop-word-preserved-then-kind-eq-ACTION c =
    actions_put c.next_word-word.ensures c.if-kind-eq-END.false c.put_action-end.auto.out _ c.loop-word.invariant c.if-kind-eq-ACTION.true
    c.command_ahead-command.ensures c.number_ahead-statements.ensures c.put_action-end.ensures

pub loop-word-smaller : goal.loop-word-smaller
loop-word-smaller c =
    let l = laying_less _ c.loop-word.invariant c.next_word-word.ensures c.if-kind-eq-END.false in
    omega arith

pub loop-word-preserved : goal.loop-word-preserved
loop-word-preserved c = actions_past c.next_word-word.ensures _ c.loop-word.invariant c.if-kind-eq-END.false c.if-kind-eq-ACTION.false
