-- Laws of the present classes: which bits are set, and what the loop question holds of them.
-- Assumes nothing.
use Prim.Native.Nat.{ℕ, ◌+◌, ◌/◌, ◌^◌, ◌<◌, ◌≤◌}
use mathlib.Core.Path.{◌≡◌, refl, ◌∙◌, ap}
use mathlib.Core.Bool.{Bool, true, false, ◌&&◌, ◌||◌, not}
use mathlib.Core.Logic.{◌⊎◌, inl, inr}
use lib.Bits.{bit_and}
use lib.Dec.{eqb, leb, ltb}
use borrow.Author.Tests.{leb-true, leb-false, le-ltb, lt-ltb, ltb-true}
use Rattle.model.specs.Words.{has, each}
use Rattle.model.proofs.Words.{true_not_false, or_either, each_elim, each_so_far, each_broken, each_all}
use Rattle.model.proofs.Bits.{bit_below as width}
use Rattle.model.proofs.Masks.{shifted}
use Rattle.loops.specs.LoopQuestion.{bits_below}

-- bit i is not set, or below n
abbrev pub bit_right : ℕ → ℕ → ℕ → Bool
bit_right present n i = not (has present i) || ltb i n

-- the code's test is the opposite
tested : (present n i : ℕ) (t : Bool) → (eqb (bit_and (present / 2 ^ i) 1) 1 && leb n i) ≡ t → bit_right present n i ≡ not t
tested present n i t e = go (has present i) (leb n i) refl (rw (shifted present i) at e)
  where
    go : (a b : Bool) → leb n i ≡ b → (a && b) ≡ t → (not a || ltb i n) ≡ not t
    go true true f h = le-ltb i n (leb-true n i f) ∙ ap not h
    go true false f h = lt-ltb i n (leb-false n i f) ∙ ap not h
    go false b f h = ap not h

module _ (present n : ℕ) where
  pub bit_over : (i : ℕ) → i < 8 → (eqb (bit_and (present / 2 ^ i) 1) 1 && leb n i) ≡ true → bits_below present n ≡ false
  unfolding bits_below
  bit_over i l t = each_broken 8 i (bit_right present n) l (tested present n i true t)

  pub bit_below : (i : ℕ) → each i (bit_right present n) ≡ true → (eqb (bit_and (present / 2 ^ i) 1) 1 && leb n i) ≡ false → each (i + 1) (bit_right present n) ≡ true
  bit_below i h t = each_so_far i (bit_right present n) h (tested present n i false t)

  pub bits_all : (i : ℕ) → i ≤ 8 → 8 ≤ i → each i (bit_right present n) ≡ true → bits_below present n ≡ true
  unfolding bits_below
  bits_all i l m h = each_all 8 i (bit_right present n) l m h

  -- a set bit of a byte is below n
  pub set_below : present < 256 → bits_below present n ≡ true → (i : ℕ) → has present i ≡ true → i < n
  unfolding bits_below
  set_below small h i s = go (or_either (not (has present i)) (ltb i n) (each_elim 8 (bit_right present n) h i (width 8 present i small s)))
    where
      go : (not (has present i) ≡ true) ⊎ (ltb i n ≡ true) → i < n
      go (inl f) = absurd (true_not_false f (ap not s))
      go (inr t) = ltb-true i n t
