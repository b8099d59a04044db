-- `stands_again` meets its contract. The loop's invariant, `Searching`: the name stands behind its record where it does from record j on.
-- Assumes nothing.
use Rattle.lists.proofs.TableLaws.{searching_start, searching_on, searching_found, searching_over}
use Rattle.lent.proofs.stands_again.Goals as goal

pub loop-j-init : goal.loop-j-init
loop-j-init c = searching_start _ _ _ _ _ c.record_count-n.ensures.is c.name_record-name.ensures.0

pub returns-then-is_same : goal.returns-then-is_same
returns-then-is_same c = searching_found _ _ _ _ _ _ c.loop-j.invariant c.loop-j-test.true _ c.name_record.ensures.0 _ c.is_same.ensures c.if-is_same.true

pub loop-j-preserved : goal.loop-j-preserved
loop-j-preserved c = searching_on _ _ _ _ _ _ c.loop-j.invariant c.loop-j-test.true _ c.name_record.ensures.0 _ c.is_same.ensures c.if-is_same.false

pub returns : goal.returns
returns c = searching_over _ _ _ _ _ _ c.loop-j.invariant c.loop-j-test.false
