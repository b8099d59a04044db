-- `aim_of`: by the referrer.
-- Assumes nothing.
use mathlib.Core.Path.{◌≡◌, sym, ap}
use Prim.Native.Nat.{ℕ}
use Rattle.model.specs.Answers.{referrer_as}
use Rattle.model.specs.declared.Referrer.{Referrer}
use Rattle.arrows.specs.Sorting.{aim}
use Rattle.blocks.proofs.clauses.aim_of.Goals as goal

aim_told : (q first : ℕ) {x y : Referrer} → x ≡ y → aim q first (referrer_as y) ≡ aim q first (referrer_as x)
aim_told q first e = ap (λ (r : Referrer). aim q first (referrer_as r)) (sym e)

pub returns-in-MoveTo : goal.returns-in-MoveTo
returns-in-MoveTo c = aim_told _ _ c.in-MoveTo.is

pub returns-in-Do : goal.returns-in-Do
returns-in-Do c = aim_told _ _ c.in-Do.is

pub returns-in-Stay : goal.returns-in-Stay
returns-in-Stay c = aim_told _ _ c.in-Stay.is
