use Rattle.limits.proofs.ShallowLaws.{reading_none, reading_on, reading_broken, reading_over}
use native.Mathlib.Omega.{arith}
use mathlib.Core.Path.{refl, sym, ◌∙◌}
use Rattle.limits.proofs.all_shallow.Goals as goal

pub loop-at-init : goal.loop-at-init
loop-at-init c = (refl, reading_none _)

pub returns-in_default : goal.returns-in_default
returns-in_default c =
    let i = c.loop-at.invariant in
    let t = c.loop-at-test.true in
    sym (reading_broken _ _ i.1 (omega (arith, i.0)) (sym c.guard_end.ensures ∙ c.in_default.is))

pub loop-at-smaller : goal.loop-at-smaller
loop-at-smaller c =
    let i = c.loop-at.invariant in
    let t = c.loop-at-test.true in
    let l = (reading_on _ _ _ i.1 (omega (arith, i.0)) (sym c.guard_end.ensures ∙ c.in-Some.is)).0 in
    omega (arith, l, t)

pub loop-at-preserved : goal.loop-at-preserved
loop-at-preserved c =
    let i = c.loop-at.invariant in
    let t = c.loop-at-test.true in
    (i.0, (reading_on _ _ _ i.1 (omega (arith, i.0)) (sym c.guard_end.ensures ∙ c.in-Some.is)).1)

pub returns : goal.returns
returns c =
    let i = c.loop-at.invariant in
    let t = c.loop-at-test.false in
    sym (reading_over _ _ i.1 (omega (arith, i.0)))
