-- `number_in` meets its contract. The loop's invariant: the name is looked for among the records from i on, the first of which has the number i.
-- Assumes nothing.
use mathlib.Core.Path.{sym, ◌∙◌, ap}
use Rattle.naming.specs.NameLists.{padded}
use Rattle.lists.specs.Lent.{found_from}
use Rattle.lists.proofs.TableLaws.{read_as, found_on, found_here, found_over}
use Rattle.lists.proofs.RecordLaws.{entries}
use Rattle.lists.proofs.number_in.Goals as goal

pub loop-i-init : goal.loop-i-init
loop-i-init c = (c.record_count-n.ensures, ap (λ t. found_from 0 t (padded c.args.word.now)) (entries _ _ _ c.record_count-n.ensures))

pub returns-then-record_is : goal.returns-then-record_is
returns-then-record_is c = sym (c.loop-i.invariant.1 ∙ found_here _ _ _ _ c.loop-i-test.true (read_as _ c.name_record.ensures.0 _ _ c.record_is.ensures ∙ c.if-record_is.true))

pub loop-i-preserved : goal.loop-i-preserved
loop-i-preserved c = (
  c.loop-i.invariant.0,
  c.loop-i.invariant.1 ∙ found_on _ _ _ _ c.loop-i-test.true (read_as _ c.name_record.ensures.0 _ _ c.record_is.ensures ∙ c.if-record_is.false),
)

pub returns : goal.returns
returns c = sym (c.loop-i.invariant.1 ∙ found_over _ _ _ _ c.loop-i-test.false)
