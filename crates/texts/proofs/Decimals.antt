-- Laws about a number's decimal text: it is what `io` makes of the number, and short.
-- Assumes nothing.
use Prim.Native.Nat.{ℕ, zero, suc, ◌+◌, ◌-◌, ◌*◌, ◌/◌, ◌%◌, ◌^◌, ◌<◌, ◌≤◌}
use native.Mathlib.Omega.{arith}
use native.Mathlib.Nat.{pow-suc, one-le-pow, pow-le-pow_right}
use mathlib.Core.Path.{◌≡◌, refl, sym, ◌∙◌, ap}
use mathlib.Core.Bool.{Bool, true, false, cond}
use mathlib.Core.List.{[], ◌∷◌, ◌++◌}
use lib.Dec.{leb, ltb}
use lib.ListN.{length, length-append}
use borrow.Author.Tests.{lt-ltb, le-ltb, leb-true, leb-false}
use Rattle.io.specs.Digits.{last_digits, hex_digit_ascii, IsDigitCount}
use Rattle.texts.specs.Texts.{decimal_of, decimal_text}

-- a digit below 10
figure : (d : ℕ) → d < 10 → hex_digit_ascii d ≡ 48 + d
figure d h = rw (lt-ltb d 10 h)

-- a number of one digit
of_one : (k n : ℕ) → n < 10 → decimal_of k n ≡ (48 + n) ∷ []
unfolding decimal_of
of_one zero n h = let e : n % 10 ≡ n = omega arith in ap (λ (x : ℕ). (48 + x) ∷ []) e
of_one (suc k) n h = rw (lt-ltb n 10 h)

-- a number of more digits
of_more : (k n : ℕ) → 10 ≤ n → decimal_of (suc k) n ≡ decimal_of k (n / 10) ++ ((48 + n % 10) ∷ [])
unfolding decimal_of
of_more k n h = rw (le-ltb n 10 h)

-- the fewest digits that hold a number are its decimal text
pub digits_of : (j k n : ℕ) → j ≤ k → n < 10 ^ suc j → (0 < j → 10 ^ j ≤ n) → last_digits 10 (suc j) n ≡ decimal_of k n
digits_of zero k n h l m =
    let p : 10 ^ suc 0 ≡ 10 = refl in
    let b : n < 10 = omega arith in
    let e : n % 10 ≡ n = omega arith in
    rw e (ap (λ (x : ℕ). x ∷ []) (figure n b) ∙ sym (of_one k n b))
digits_of (suc j) zero n h l m = absurd (omega arith)
digits_of (suc j) (suc k) n h l m =
    let p : 10 ^ suc (suc j) ≡ 10 ^ suc j * 10 = pow-suc 10 (suc j) in
    let q : 10 ^ suc j ≡ 10 ^ j * 10 = pow-suc 10 j in
    let w : 10 ^ suc j ≤ n = m (omega arith) in
    let o : 1 ≤ 10 ^ j = one-le-pow j 10 (omega arith) in
    let b : 10 ≤ n = omega arith in
    let r = digits_of j k (n / 10) (omega arith) (omega arith) (λ z. omega arith) in
    let f : hex_digit_ascii (n % 10) ≡ 48 + n % 10 = figure (n % 10) (omega arith) in
    rw (r, f, of_more k n b)

-- twenty digits hold a number below 10 to the 20th
few : (n k : ℕ) → n < 10 ^ 20 → IsDigitCount 10 1 n k → k ≤ 20
few n k h f = go (leb k 20) refl
  where
    go : (b : Bool) → leb k 20 ≡ b → k ≤ 20
    go true e = leb-true k 20 e
    go false e =
        let o : 20 < k = leb-false k 20 e in
        let p : 10 ^ (k - 1) ≤ n = f.2 (omega arith) in
        let w : 20 ≤ k - 1 = omega arith in
        let q : 10 ^ 20 ≤ 10 ^ (k - 1) = pow-le-pow_right (let z : 0 < 10 = omega arith in z) w in
        absurd (omega arith)

-- what `io::decimal` promises of its digits
pub decimal_digits : (n k : ℕ) → n < 10 ^ 20 → IsDigitCount 10 1 n k → last_digits 10 k n ≡ decimal_text n
unfolding decimal_text
decimal_digits n zero h f = absurd (omega (arith, f.0))
decimal_digits n (suc j) h f =
    digits_of j 19 n (omega (arith, few n (suc j) h f)) f.1 (λ z. let e : suc j - 1 ≡ j = omega arith in rw e at (f.2 (omega arith)))

-- it has at most 20 digits
of_length : (k n : ℕ) → length (decimal_of k n) ≤ suc k
unfolding decimal_of
of_length zero n = omega arith
of_length (suc k) n = go (ltb n 10) (of_length k (n / 10))
  where
    go : (b : Bool) → length (decimal_of k (n / 10)) ≤ suc k → length (cond b ((48 + n) ∷ []) (decimal_of k (n / 10) ++ ((48 + n % 10) ∷ []))) ≤ suc (suc k)
    go true r = omega arith
    go false r = omega (arith, length-append (decimal_of k (n / 10)) ((48 + n % 10) ∷ []))

pub decimal_length : (n : ℕ) → length (decimal_text n) ≤ 20
unfolding decimal_text
decimal_length n = of_length 19 n
