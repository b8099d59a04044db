use Rattle.limits.proofs.CountLaws.{left_none, left_on, left_stop, left_over}
use borrow.Author.Rules.{rules}
use Rattle.limits.proofs.sets_right.Goals as goal

pub loop-i-init : goal.loop-i-init
loop-i-init c = left_none _

pub returns-then-class_set-eq0 : goal.returns-then-class_set-eq0
returns-then-class_set-eq0 c = left_stop _ _ _ _ c.record_count-n.ensures c.loop-i.invariant c.loop-i-test.true c.class_set.ensures c.if-class_set-eq0.true

pub loop-i-preserved : goal.loop-i-preserved
loop-i-preserved c = left_on _ _ _ _ c.record_count-n.ensures c.loop-i.invariant c.loop-i-test.true c.class_set.ensures (search rules) c.if-class_set-eq0.false

pub returns : goal.returns
returns c = left_over _ _ _ c.record_count-n.ensures c.loop-i.invariant c.loop-i-test.false
