use Rattle.laying.proofs.LayingLaws.{setting_none, setting_more, setting_all, sets_count}
use native.Mathlib.Omega.{arith}
use Rattle.laying.proofs.write_classes.Goals as goal

pub loop-i-init : goal.loop-i-init
loop-i-init c = setting_none _ _ _ (omega arith) (omega arith)

pub loop-i-preserved : goal.loop-i-preserved
loop-i-preserved c =
    let t = c.loop-i-test.true in
    let n = sets_count _ _ c.record_count-n.ensures in
    setting_more _ _ _ _ _ _ _ _ _ c.loop-i.invariant (omega (arith, n)) c.class_set.ensures c.put_number-end.ensures

pub returns : goal.returns
returns c =
    let t = c.loop-i-test.false in
    let n = sets_count _ _ c.record_count-n.ensures in
    setting_all _ _ _ _ _ _ c.loop-i.invariant (omega (arith, n))
