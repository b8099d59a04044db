-- `none_held` meets its contract. The loop's invariant: no name from `at` on is in the table where none from a place on is.
-- Assumes nothing.
use mathlib.Core.Path.{refl, sym, ◌∙◌}
use Rattle.own.proofs.HeldLaws.{name_less}
use Rattle.own.proofs.LookingUp.{none_on, none_broken, none_over}
use Rattle.differing.proofs.none_held.Goals as goal

pub loop-start-init : goal.loop-start-init
loop-start-init c = refl

pub returns-then-is_some : goal.returns-then-is_some
returns-then-is_some c = sym (c.loop-start.invariant ∙ none_broken _ _ _ _ _ _ _ c.in-Some.ensures _ c.among_held.ensures (sym c.is_some.ensures ∙ c.if-is_some.true))

pub loop-start-smaller : goal.loop-start-smaller
loop-start-smaller c = name_less _ _ _ _ _ _ c.in-Some.ensures

pub loop-start-preserved : goal.loop-start-preserved
loop-start-preserved c = c.loop-start.invariant ∙ none_on _ _ _ _ _ _ _ c.in-Some.ensures _ c.among_held.ensures (sym c.is_some.ensures ∙ c.if-is_some.false)

pub returns : goal.returns
returns c = sym (c.loop-start.invariant ∙ none_over _ _ _ _ _ c.in_default.ensures)
