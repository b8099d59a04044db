-- Laws about the bits of a number: `has s n`, bit n of s.
-- Assumes nothing.
use Prim.Native.Nat.{ℕ, zero, suc, ◌/◌, ◌%◌, ◌^◌, ◌<◌, ◌≤◌}
use native.Mathlib.Omega.{arith}
use native.Mathlib.Nat.{pow-suc, div-eq_of_lt, lt_of_lt_of_le, zero-div}
use native.Mathlib.Numerals.{one-add}
use mathlib.Core.Path.{◌≡◌, refl, sym, ap, ◌∙◌}
use mathlib.Core.Bool.{Bool, true, false}
use mathlib.Core.Logic.{◌⊎◌, inl, inr}
use lib.Dec.{eqb}
use lib.Pow.{pow_mono, shr-shr}
use borrow.Author.Tests.{eq-eqb, eqb-true, eqb-false}
use Rattle.model.specs.Words.{has}
use Rattle.model.proofs.Words.{lt_or_le, true_not_false}

-- bit 0 of a number that is odd
pub has_odd : (s : ℕ) → s % 2 ≡ 1 → has s 0 ≡ true
unfolding has
has_odd s o = eq-eqb (s / 2 ^ 0 % 2) 1 (let e : s / 1 % 2 ≡ 1 = omega arith in e)

-- bit n + 1 of a number is bit n of its half
pub has_half : (s n : ℕ) → has s (suc n) ≡ has (s / 2) n
unfolding has
has_half s n = ap (λ (x : ℕ). eqb (x % 2) 1) (sym (shr-shr s 1 n ∙ ap (λ (x : ℕ). s / 2 ^ x) (one-add n)))

-- a number below 2 to the n has no bit n
pub has_past : (s n : ℕ) → s < 2 ^ n → has s n ≡ false
unfolding has
has_past s n l = rw (div-eq_of_lt l)

-- 0 has no bit
pub has_none : (n : ℕ) → has 0 n ≡ false
unfolding has
has_none n = rw (zero-div (2 ^ n))

-- the bits of a number below 2 to the k are below k
pub bit_below : (k s n : ℕ) → s < 2 ^ k → has s n ≡ true → n < k
bit_below k s n l t = go (lt_or_le n k)
  where
    go : (n < k) ⊎ (k ≤ n) → n < k
    go (inl b) = b
    go (inr b) = absurd (true_not_false t (has_past s n (lt_of_lt_of_le l (pow_mono b))))

-- a number below 2 to the k that is not 0 has a bit below k
pub some_bit : (k s : ℕ) → s < 2 ^ k → (s ≡ 0 → ⊥) → (n : ℕ) × (n < k) × (has s n ≡ true)
some_bit zero s l z = absurd (z (omega arith))
some_bit (suc k) s l z = go (eqb (s % 2) 1) refl (some_bit k (s / 2) (omega (arith, pow-suc 2 k)))
  where
    go : (b : Bool) → eqb (s % 2) 1 ≡ b → ((s / 2 ≡ 0 → ⊥) → (n : ℕ) × (n < k) × (has (s / 2) n ≡ true))
        → (n : ℕ) × (n < suc k) × (has s n ≡ true)
    go true e r = (0, (omega arith), has_odd s (eqb-true (s % 2) 1 e))
    go false e r =
        let odd = eqb-false (s % 2) 1 e in
        let (n, m, t) = r (λ (h : s / 2 ≡ 0). z (let q : s ≡ 0 = omega arith in q)) in
        (suc n, (omega arith), (has_half s n ∙ t))
