-- Laws about the bits of `&`, `|` and `!`, of a shift, of a power of 2, and about sets that are compared by mask.
-- Assumes nothing.
use Prim.Native.Nat.{ℕ, zero, suc, ◌-◌, ◌/◌, ◌%◌, ◌^◌, ◌<◌, min, max}
use native.Mathlib.Omega.{arith}
use native.Mathlib.Nat.{lt_of_le_of_lt, pow-suc}
use mathlib.Core.Path.{◌≡◌, refl, sym, ap, ◌∙◌, fun_ext}
use mathlib.Core.Bool.{Bool, true, false, ◌&&◌, ◌||◌, not}
use lib.Dec.{eqb, eqb-zero-suc, eqb-suc-zero, eqb-suc-suc}
use lib.Bits.{bit_and, bit_or, and_step, or_step, and_le_l, and_mask}
use lib.Pow.{pow_pos}
use borrow.Author.Tests.{eq-eqb, eqb-true}
use Rattle.model.specs.Words.{has, each, some_below}
use Rattle.model.proofs.Words.{both_ways, each_intro, each_elim, true_not_false}
use Rattle.model.proofs.Bits.{has_half, has_none}

-- bit 0 is the digit 1
pub has_zero : (s : ℕ) → has s 0 ≡ eqb (s % 2) 1
unfolding has
has_zero s = ap (λ (x : ℕ). eqb x 1) (let e : s / 1 % 2 ≡ s % 2 = omega arith in e)

digit_and : (x y : ℕ) → x < 2 → y < 2 → eqb (min x y) 1 ≡ (eqb x 1 && eqb y 1)
digit_and zero zero p q = refl
digit_and zero (suc zero) p q = refl
digit_and (suc zero) zero p q = refl
digit_and (suc zero) (suc zero) p q = refl
digit_and (suc (suc x)) y p q = absurd (omega arith)
digit_and zero (suc (suc y)) p q = absurd (omega arith)
digit_and (suc zero) (suc (suc y)) p q = absurd (omega arith)

digit_or : (x y : ℕ) → x < 2 → y < 2 → eqb (max x y) 1 ≡ (eqb x 1 || eqb y 1)
digit_or zero zero p q = refl
digit_or zero (suc zero) p q = refl
digit_or (suc zero) zero p q = refl
digit_or (suc zero) (suc zero) p q = refl
digit_or (suc (suc x)) y p q = absurd (omega arith)
digit_or zero (suc (suc y)) p q = absurd (omega arith)
digit_or (suc zero) (suc (suc y)) p q = absurd (omega arith)

-- bit n of `a & b`
pub has_and : (a b n : ℕ) → has (bit_and a b) n ≡ (has a n && has b n)
has_and a b zero =
    let e : bit_and a b % 2 ≡ min (a % 2) (b % 2) = omega (arith, and_step a b) in
    rw (has_zero (bit_and a b), has_zero a, has_zero b, e) (digit_and (a % 2) (b % 2) (omega arith) (omega arith))
has_and a b (suc n) =
    let e : bit_and a b / 2 ≡ bit_and (a / 2) (b / 2) = omega (arith, and_step a b) in
    rw (has_half (bit_and a b) n, has_half a n, has_half b n, e) (has_and (a / 2) (b / 2) n)

-- bit n of `a | b`
pub has_or : (a b n : ℕ) → has (bit_or a b) n ≡ (has a n || has b n)
has_or a b zero =
    let e : bit_or a b % 2 ≡ max (a % 2) (b % 2) = omega (arith, or_step a b) in
    rw (has_zero (bit_or a b), has_zero a, has_zero b, e) (digit_or (a % 2) (b % 2) (omega arith) (omega arith))
has_or a b (suc n) =
    let e : bit_or a b / 2 ≡ bit_or (a / 2) (b / 2) = omega (arith, or_step a b) in
    rw (has_half (bit_or a b) n, has_half a n, has_half b n, e) (has_or (a / 2) (b / 2) n)

digit_not : (x : ℕ) → x < 2 → eqb (1 - x) 1 ≡ not (eqb x 1)
digit_not zero p = refl
digit_not (suc zero) p = refl
digit_not (suc (suc x)) p = absurd (omega arith)

-- bit n of `!a` in k bits
pub has_not : (k a n : ℕ) → a < 2 ^ k → n < k → has (2 ^ k - suc a) n ≡ not (has a n)
has_not zero a n l m = absurd (omega arith)
has_not (suc k) a zero l m =
    let e : (2 ^ suc k - suc a) % 2 ≡ 1 - a % 2 = omega (arith, pow-suc 2 k) in
    rw (has_zero (2 ^ suc k - suc a), has_zero a, e) (digit_not (a % 2) (omega arith))
has_not (suc k) a (suc n) l m =
    let e : (2 ^ suc k - suc a) / 2 ≡ 2 ^ k - suc (a / 2) = omega (arith, pow-suc 2 k) in
    rw (has_half (2 ^ suc k - suc a) n, has_half a n, e) (has_not k (a / 2) n (omega (arith, pow-suc 2 k)) (omega arith))

-- the one bit by shift and mask
pub shifted : (s n : ℕ) → eqb (bit_and (s / 2 ^ n) 1) 1 ≡ has s n
unfolding has
shifted s n = ap (λ (x : ℕ). eqb x 1) (and_mask (s / 2 ^ n) 1)

-- 2 to the m has bit m and no other
pub has_pow : (m n : ℕ) → has (2 ^ m) n ≡ eqb m n
has_pow zero zero = has_zero 1
has_pow zero (suc n) = has_half 1 n ∙ has_none n ∙ sym (eqb-zero-suc n)
has_pow (suc m) zero =
    let e : 2 ^ suc m % 2 ≡ 0 = omega (arith, pow-suc 2 m) in
    has_zero (2 ^ suc m) ∙ ap (λ (x : ℕ). eqb x 1) e ∙ sym (eqb-suc-zero m)
has_pow (suc m) (suc n) =
    let e : 2 ^ suc m / 2 ≡ 2 ^ m = omega (arith, pow-suc 2 m) in
    has_half (2 ^ suc m) n ∙ ap (λ (x : ℕ). has x n) e ∙ has_pow m n ∙ sym (eqb-suc-suc m n)

digit_same : (x y : ℕ) → x < 2 → y < 2 → eqb x 1 ≡ eqb y 1 → x ≡ y
digit_same zero zero p q e = refl
digit_same zero (suc zero) p q e = absurd (true_not_false refl (sym e))
digit_same (suc zero) zero p q e = absurd (true_not_false refl e)
digit_same (suc zero) (suc zero) p q e = refl
digit_same (suc (suc x)) y p q e = absurd (omega arith)
digit_same zero (suc (suc y)) p q e = absurd (omega arith)
digit_same (suc zero) (suc (suc y)) p q e = absurd (omega arith)

-- two numbers below 2 to the k with the same bits below k are equal
pub same_bits : (k a b : ℕ) → a < 2 ^ k → b < 2 ^ k → ((n : ℕ) → n < k → has a n ≡ has b n) → a ≡ b
same_bits zero a b p q h = omega arith
same_bits (suc k) a b p q h =
    let low : a % 2 ≡ b % 2 = digit_same (a % 2) (b % 2) (omega arith) (omega arith) (sym (has_zero a) ∙ h 0 (omega arith) ∙ has_zero b) in
    let high : a / 2 ≡ b / 2 = same_bits k (a / 2) (b / 2) (omega (arith, pow-suc 2 k)) (omega (arith, pow-suc 2 k)) (λ n l. sym (has_half a n) ∙ h (suc n) (omega arith) ∙ has_half b n) in
    omega arith

-- an equation of numbers as a test of each bit
pub eqb_bits : (k a b : ℕ) → a < 2 ^ k → b < 2 ^ k → (f : ℕ → Bool)
    → ((n : ℕ) → has a n ≡ has b n → f n ≡ true) → ((n : ℕ) → f n ≡ true → has a n ≡ has b n)
    → eqb a b ≡ each k f
eqb_bits k a b p q f to from =
    both_ways (eqb a b) (each k f)
    (λ e. each_intro k f (λ n l. to n (ap (λ (x : ℕ). has x n) (eqb-true a b e))))
    (λ e. eq-eqb a b (same_bits k a b p q (λ n l. from n (each_elim k f e n l))))

-- not all pass: some do not
pub not_each : (k : ℕ) (f : ℕ → Bool) → not (each k f) ≡ some_below k (λ n. not (f n))
unfolding each some_below
not_each zero f = refl
not_each (suc k) f = go (each k f) (f k) (not_each k f)
  where
    go : (x y : Bool) → not x ≡ some_below k (λ n. not (f n)) → not (x && y) ≡ (some_below k (λ n. not (f n)) || not y)
    go true y h = rw (← h)
    go false y h = rw (← h)

-- a set `a` below 2 to the k, met with `b`, by mask
module _ (k a b : ℕ) (small : a < 2 ^ k) where
  met_small : bit_and a b < 2 ^ k
  met_small = lt_of_le_of_lt (and_le_l a b) small

  -- nothing is met: no member of `a` is in `b`
  pub all_not_met : eqb (bit_and a b) 0 ≡ each k (λ n. not (has a n) || not (has b n))
  all_not_met =
      eqb_bits k (bit_and a b) 0 met_small (pow_pos k) (λ n. not (has a n) || not (has b n))
      (λ n e. to (has a n) (has b n) (sym (has_and a b n) ∙ e ∙ has_none n))
      (λ n t. has_and a b n ∙ from (has a n) (has b n) t ∙ sym (has_none n))
    where
      to : (x y : Bool) → (x && y) ≡ false → (not x || not y) ≡ true
      to false y e = refl
      to true y e = rw e

      from : (x y : Bool) → (not x || not y) ≡ true → (x && y) ≡ false
      from false y e = refl
      from true true e = sym e
      from true false e = refl

  -- all is met: each member of `a` is in `b`
  pub all_met : eqb (bit_and a b) a ≡ each k (λ n. not (has a n) || has b n)
  all_met =
      eqb_bits k (bit_and a b) a met_small small (λ n. not (has a n) || has b n)
      (λ n e. to (has a n) (has b n) (sym (has_and a b n) ∙ e))
      (λ n t. has_and a b n ∙ from (has a n) (has b n) t)
    where
      to : (x y : Bool) → (x && y) ≡ x → (not x || y) ≡ true
      to false y e = refl
      to true y e = e

      from : (x y : Bool) → (not x || y) ≡ true → (x && y) ≡ x
      from false y e = refl
      from true y e = e

  -- something is met: some member of `a` is in `b`
  pub some_met : not (eqb (bit_and a b) 0) ≡ some_below k (λ n. has a n && has b n)
  some_met = ap not all_not_met ∙ not_each k (λ n. not (has a n) || not (has b n)) ∙ ap (some_below k) (fun_ext λ n. back (has a n) (has b n))
    where
      back : (x y : Bool) → not (not x || not y) ≡ (x && y)
      back false y = refl
      back true true = refl
      back true false = refl

  -- not all is met: some member of `a` is not in `b`
  pub some_not_met : not (eqb (bit_and a b) a) ≡ some_below k (λ n. has a n && not (has b n))
  some_not_met = ap not all_met ∙ not_each k (λ n. not (has a n) || has b n) ∙ ap (some_below k) (fun_ext λ n. back (has a n) (has b n))
    where
      back : (x y : Bool) → not (not x || y) ≡ (x && not y)
      back false y = refl
      back true y = refl
