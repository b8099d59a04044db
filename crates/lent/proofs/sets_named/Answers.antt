-- `sets_named` meets its contract. The loop's invariant: every set's bits have names where those of the classes from i on do.
-- Assumes nothing.
use mathlib.Core.Path.{sym, ◌∙◌, ap}
use Rattle.model.specs.Words.{every}
use Rattle.lists.proofs.TableLaws.{every_on, every_broken, every_over}
use Rattle.lists.proofs.ListLaws.{sets_left, set_read}
use Rattle.lent.proofs.sets_named.Goals as goal

pub loop-i-init : goal.loop-i-init
loop-i-init c = (c.record_count-n.ensures, ap (every _) (sets_left _ _ c.record_count-n.ensures))

pub returns-then-not-bits_named : goal.returns-then-not-bits_named
returns-then-not-bits_named c =
    let i = c.loop-i.invariant in
    let l = c.loop-i-test.true in
    sym (i.1 ∙ every_broken _ _ _ _ l (set_read _ _ _ i.0 l _ c.class_set.ensures _ _ c.bits_named.ensures ∙ c.if-not-bits_named.true))

pub loop-i-preserved : goal.loop-i-preserved
loop-i-preserved c =
    let i = c.loop-i.invariant in
    let l = c.loop-i-test.true in
    (i.0, i.1 ∙ every_on _ _ _ _ l (set_read _ _ _ i.0 l _ c.class_set.ensures _ _ c.bits_named.ensures ∙ c.if-not-bits_named.false))

pub returns : goal.returns
returns c = sym (c.loop-i.invariant.1 ∙ every_over _ _ _ _ c.loop-i-test.false)
