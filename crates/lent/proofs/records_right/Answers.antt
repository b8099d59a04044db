-- `records_right` meets its contract. The loop's invariant: every record is that of a name where those from i on are.
-- Assumes nothing.
use mathlib.Core.Path.{sym, ◌∙◌, ap}
use Rattle.model.specs.Words.{every}
use Rattle.model.proofs.Words.{passed, not_passed}
use Rattle.naming.specs.NameLists.{record_right}
use Rattle.lists.proofs.TableLaws.{every_on, every_broken, every_over}
use Rattle.lists.proofs.RecordLaws.{entries}
use mathlib.Core.Bool.{not}
use Rattle.lent.proofs.records_right.Goals as goal

pub loop-i-init : goal.loop-i-init
loop-i-init c = (c.record_count-n.ensures, ap (every record_right) (entries _ _ _ c.record_count-n.ensures))

pub returns-then-not-record_right : goal.returns-then-not-record_right
returns-then-not-record_right c =
    let read = c.record_right.ensures ∙ ap record_right c.name_record.ensures.0 in
    sym (c.loop-i.invariant.1 ∙ every_broken _ _ _ _ c.loop-i-test.true (not_passed read (ap not c.if-not-record_right.true)))

pub loop-i-preserved : goal.loop-i-preserved
loop-i-preserved c =
    let i = c.loop-i.invariant in
    let read = c.record_right.ensures ∙ ap record_right c.name_record.ensures.0 in
    (i.0, i.1 ∙ every_on _ _ _ _ c.loop-i-test.true (passed read (ap not c.if-not-record_right.false)))

pub returns : goal.returns
returns c = sym (c.loop-i.invariant.1 ∙ every_over _ _ _ _ c.loop-i-test.false)
