-- `plan_guards`: from the last record down, each is planned by those behind it.
-- Assumes nothing.
use Prim.Native.Nat.{◌+◌, ◌-◌}
use native.Mathlib.Omega.{arith}
use mathlib.Core.Path.{◌≡◌}
use Rattle.truths.proofs.PlanLaws.{record_short, planning_start, planning_more, planning_end}
use Rattle.truths.proofs.plans.plan_guards.Goals as goal

pub loop-i-init : goal.loop-i-init
loop-i-init c = planning_start _ _ _ c.in_eights-count.ensures c.requires.0

pub overflow_cast-sizes : goal.overflow_cast-sizes
overflow_cast-sizes c =
    let i = c.loop-i.i in
    let next : i ≡ i - 1 + 1 = omega arith in
    omega (arith, record_short _ _ _ _ _ _ _ (i - 1) i next c.loop-i.invariant c.guard_record-record.result, c.record_size-size.ensures, c.loop-i.invariant.few)

pub loop-i-preserved : goal.loop-i-preserved
loop-i-preserved c = planning_more _ _ _ _ _ _ _ _ c.loop-i.i (omega arith) c.loop-i.invariant c.guard_record-record.result _ _ _ _ c.guard_record-record.ensures c.record_size-size.ensures c.record_mask-mask.ensures c.record_number.ensures c.low_word.ensures

pub returns : goal.returns
returns c = planning_end _ _ _ _ _ _ _ _ c.in_eights-count.ensures c.loop-i.invariant c.loop-i-test.false
