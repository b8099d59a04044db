-- `held_differ` meets its contract. The loop's invariant: no name stands twice where none of those from entry i on does.
-- Assumes nothing.
use mathlib.Core.Path.{refl, sym, ◌∙◌, ap}
use Rattle.naming.specs.NameLists.{none_twice}
use Rattle.lists.proofs.TableLaws.{left_all, behind_left, once_on, once_broken, once_over}
use Rattle.own.specs.Held.{held}
use Rattle.differing.proofs.held_differ.Goals as goal

pub loop-i-init : goal.loop-i-init
loop-i-init c = ap none_twice (left_all _ _)

pub returns-then-held_again : goal.returns-then-held_again
returns-then-held_again c =
    let a = c.args in
    sym (c.loop-i.invariant
    ∙ once_broken _ _ _ c.loop-i-test.true (behind_left (held a.text.now a.table.now) _ _ c.loop-i.i refl _ c.held_again.ensures ∙ c.if-held_again.true))

pub loop-i-preserved : goal.loop-i-preserved
loop-i-preserved c =
    let a = c.args in
    c.loop-i.invariant
    ∙ once_on _ _ _ c.loop-i-test.true (behind_left (held a.text.now a.table.now) _ _ c.loop-i.i refl _ c.held_again.ensures ∙ c.if-held_again.false)

pub returns : goal.returns
returns c = sym (c.loop-i.invariant ∙ once_over _ _ _ c.loop-i-test.false)
