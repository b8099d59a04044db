-- `sets_alike` meets its contract. The loop's invariant, `Alike`: the first i sets are the same, and the others decide.
-- Assumes nothing.
use Rattle.missing.proofs.SetLaws.{sets_more, sets_over, sets_on, sets_differ}
use Rattle.missing.proofs.sets_alike.Goals as goal

pub returns-then-n-sets : goal.returns-then-n-sets
returns-then-n-sets c = sets_more _ _ _ c.record_count-n.ensures c.if-n-sets.true

pub returns-then-class_set-name_set : goal.returns-then-class_set-name_set
returns-then-class_set-name_set c = sets_differ _ _ _ _ c.loop-i.invariant c.loop-i-test.true _ _ c.class_set.ensures c.name_set.ensures c.if-class_set-name_set.true

pub loop-i-preserved : goal.loop-i-preserved
loop-i-preserved c = sets_on _ _ _ _ c.loop-i.invariant c.loop-i-test.true _ _ c.class_set.ensures c.name_set.ensures c.if-class_set-name_set.false

pub returns : goal.returns
returns c = sets_over _ _ _ _ c.loop-i.invariant c.loop-i-test.false
