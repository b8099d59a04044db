-- `ahead` meets its contract. The loop's invariant, `Going`: the word is looked for among the names from a place on, the first of which has the number i.
-- Assumes nothing.
use mathlib.Core.Path.{refl}
use borrow.Author.Rules.{rules}
use Rattle.own.proofs.HeldLaws.{name_less}
use Rattle.own.proofs.LookingUp.{going_on, going_found, going_over}
use Rattle.own.proofs.ahead.Goals as goal

pub loop-start-init : goal.loop-start-init
loop-start-init c = record { told = refl; fewer = search rules }

pub returns-then-is_same : goal.returns-then-is_same
returns-then-is_same c = going_found _ _ _ _ _ _ _ _ c.loop-start.invariant _ _ c.in-Some.ensures _ c.is_same.ensures c.if-is_same.true

pub loop-start-smaller : goal.loop-start-smaller
loop-start-smaller c = name_less _ _ _ _ _ _ c.in-Some.ensures

pub loop-start-preserved : goal.loop-start-preserved
loop-start-preserved c = going_on _ _ _ _ _ _ _ _ c.loop-start.invariant _ _ c.in-Some.ensures _ c.is_same.ensures c.if-is_same.false

pub returns : goal.returns
returns c = going_over _ _ _ _ _ _ _ _ c.loop-start.invariant c.in_default.ensures
