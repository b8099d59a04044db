-- `all_differ` meets its contract. The loop's invariant: no name stands twice where none of those from record i on does.
-- Assumes nothing.
use mathlib.Core.Path.{sym, ◌∙◌, ap}
use Rattle.naming.specs.NameLists.{none_twice}
use Rattle.lists.specs.Lent.{name_record}
use Rattle.lists.proofs.TableLaws.{behind_left, once_on, once_broken, once_over}
use Rattle.lists.proofs.RecordLaws.{entries}
use Rattle.lent.proofs.all_differ.Goals as goal

pub loop-i-init : goal.loop-i-init
loop-i-init c = (c.record_count-n.ensures, ap none_twice (entries _ _ _ c.record_count-n.ensures))

pub returns-then-stands_again : goal.returns-then-stands_again
returns-then-stands_again c =
    let i = c.loop-i.invariant in
    let a = c.args in
    sym (i.1 ∙ once_broken _ _ _ c.loop-i-test.true (behind_left (name_record a.size a.list.now) _ _ c.loop-i.i i.0.is _ c.stands_again.ensures ∙ c.if-stands_again.true))

pub loop-i-preserved : goal.loop-i-preserved
loop-i-preserved c =
    let i = c.loop-i.invariant in
    let a = c.args in
    (i.0, i.1 ∙ once_on _ _ _ c.loop-i-test.true (behind_left (name_record a.size a.list.now) _ _ c.loop-i.i i.0.is _ c.stands_again.ensures ∙ c.if-stands_again.false))

pub returns : goal.returns
returns c = sym (c.loop-i.invariant.1 ∙ once_over _ _ _ c.loop-i-test.false)
