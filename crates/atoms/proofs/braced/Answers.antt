-- `atoms::braced` meets its contract. The loop's invariant: the names from here on, added to those so far, are those from the start.
-- The measure is what is left of the text. Assumes nothing.
use mathlib.Core.Path.{refl, sym, ◌∙◌}
use Rattle.atoms.proofs.AtomSteps.{braced_end, braced_name, braced_other}
use Rattle.atoms.proofs.braced.Goals as goal

pub loop-at-init : goal.loop-at-init
loop-at-init c = refl

pub returns-then-kind : goal.returns-then-kind
returns-then-kind c =
    let l = c.loop-at in
    braced_end _ _ _ _ _ _ c.next_word-word.ensures l.set c.if-kind.true ∙ sym l.invariant

pub loop-at-preserved-then-kind-eq-NAME : goal.loop-at-preserved-then-kind-eq-NAME
loop-at-preserved-then-kind-eq-NAME c =
    let w = c.next_word-word in
    let l = c.loop-at in
    l.invariant ∙ braced_name _ _ _ _ _ _ w.ensures l.set _ c.if-kind.false c.if-kind-eq-NAME.true c.with_name-set.ensures

pub loop-at-preserved : goal.loop-at-preserved
loop-at-preserved c =
    let l = c.loop-at in
    l.invariant ∙ braced_other _ _ _ _ _ _ c.next_word-word.ensures l.set c.if-kind.false c.if-kind-eq-NAME.false
