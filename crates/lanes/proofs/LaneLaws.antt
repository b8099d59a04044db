-- Laws about specs/Lanes.antt: what the words of and, or, not say, the six fixed words, and the lowest lane.
-- Assumes nothing.
use Prim.Native.Nat.{ℕ, zero, suc, ◌-◌, ◌^◌, ◌<◌, ◌≤◌}
use native.Mathlib.Omega.{arith}
use mathlib.Core.Path.{◌≡◌, refl, sym, ap, ◌∙◌}
use mathlib.Core.Bool.{Bool, true, false, ◌&&◌, ◌||◌, not}
use mathlib.Core.List.{List, [], ◌∷◌}
use mathlib.Core.Option.{Option, none, some}
use lib.Dec.{ltb}
use lib.ListN.{get_or}
use mir.Syntax.{w64}
use Rattle.std.specs.Int.{bit_at, trailing_zeros}
use Rattle.std.specs.Int.Count.{trailing_of_zero}
use Rattle.std.proofs.lemmas.Nat.Bits.{bit_at-trailing_zeros}
use lib.Bits.{bit_and, bit_or, and_lt, or_lt}
use borrow.Author.Tests.{eq-eqb, ne_eqb, ltb-true}
use Rattle.model.specs.Words.{has, each, least}
use Rattle.model.proofs.Words.{each_elim, clash, and_left, and_right, least_found, least_not, least_some, least_none, least_told}
use Rattle.model.proofs.Bits.{has_none, some_bit}
use Rattle.model.proofs.Masks.{has_and, has_or, has_not, same_bits}
use Rattle.lanes.specs.Lanes.{Lanes, all_lanes, opposite, lowest_lane}

-- the words of and, or, not
pub lanes_and : {x y : ℕ} {f g : ℕ → Bool} → Lanes x f → Lanes y g → Lanes (bit_and x y) (λ i. f i && g i)
lanes_and {x} {y} p q = record { narrow = and_lt 64 x y p.narrow q.narrow; lane = λ i l. rw (has_and x y i, p.lane i l, q.lane i l) }

pub lanes_or : {x y : ℕ} {f g : ℕ → Bool} → Lanes x f → Lanes y g → Lanes (bit_or x y) (λ i. f i || g i)
lanes_or {x} {y} p q = record { narrow = or_lt 64 x y p.narrow q.narrow; lane = λ i l. rw (has_or x y i, p.lane i l, q.lane i l) }

pub lanes_not : {x : ℕ} {f : ℕ → Bool} → Lanes x f → Lanes (opposite x) (λ i. not (f i))
lanes_not {x} p =
    let e : 18446744073709551615 - x ≡ 2 ^ 64 - suc x = omega arith in
    record { narrow = omega arith; lane = λ i l. rw e (has_not 64 x i p.narrow l ∙ ap not (p.lane i l)) }

-- no lane, all lanes
pub lanes_none : Lanes 0 (λ i. false)
lanes_none = record { narrow = omega arith; lane = λ i l. has_none i }

all_table : each 64 (has 18446744073709551615) ≡ true
unfolding each has
all_table = refl

pub lanes_all : Lanes all_lanes (λ i. true)
lanes_all = record { narrow = omega arith; lane = λ i l. each_elim 64 (has 18446744073709551615) all_table i l }

-- the same word says an equal test
pub lanes_as : {x : ℕ} {f : ℕ → Bool} (g : ℕ → Bool) → Lanes x f → ((i : ℕ) → i < 64 → f i ≡ g i) → Lanes x g
lanes_as g p h = record { narrow = p.narrow; lane = λ i l. p.lane i l ∙ h i l }

-- a word says its own bits
pub lanes_own : {x : ℕ} → x < 2 ^ 64 → Lanes x (has x)
lanes_own l = record { narrow = l; lane = λ i m. refl }

-- a word is 0 exactly if no lane is true
pub lanes_empty : {x : ℕ} {f : ℕ → Bool} → Lanes x f → x ≡ 0 → (i : ℕ) → i < 64 → f i ≡ false
lanes_empty {x} p z i l = sym (p.lane i l) ∙ ap (λ (w : ℕ). has w i) z ∙ has_none i

pub lanes_some : {x : ℕ} {f : ℕ → Bool} → Lanes x f → (x ≡ 0 → ⊥) → (i : ℕ) × (i < 64) × (f i ≡ true)
lanes_some {x} p n = let (i, l, t) = some_bit 64 x p.narrow n in (i, l, sym (p.lane i l) ∙ t)

-- what a word says leaves one word
pub lanes_one : {x y : ℕ} {f : ℕ → Bool} → Lanes x f → Lanes y f → x ≡ y
lanes_one {x} {y} p q = same_bits 64 x y p.narrow q.narrow (λ n l. p.lane n l ∙ sym (q.lane n l))

-- the six fixed words
unfoldable pub fixed : List ℕ
fixed = 12297829382473034410 ∷ 14757395258967641292 ∷ 17361641481138401520 ∷ 18374966859414961920 ∷ 18446462603027742720 ∷ 18446744069414584320 ∷ []

unfoldable same : Bool → Bool → Bool
same true b = b
same false b = not b

same_is : (a b : Bool) → same a b ≡ true → a ≡ b
unfolding same
same_is true b h = sym h
same_is false false h = refl
same_is false true h = absurd (clash (cc))

unfoldable fixed_right : ℕ → ℕ → Bool
fixed_right j i = same (has (get_or fixed j 0) i) (has i j)

fixed_table : each 6 (λ j. ltb (get_or fixed j 0) (2 ^ 64) && each 64 (fixed_right j)) ≡ true
unfolding each same has fixed fixed_right
fixed_table = refl

pub fixed_lanes : (j : ℕ) → j < 6 → Lanes (get_or fixed j 0) (λ i. has i j)
unfolding fixed_right
fixed_lanes j l =
    let row = each_elim 6 (λ j. ltb (get_or fixed j 0) (2 ^ 64) && each 64 (fixed_right j)) fixed_table j l in
    record {
      narrow = ltb-true (get_or fixed j 0) (2 ^ 64) (and_left (ltb (get_or fixed j 0) (2 ^ 64)) (each 64 (fixed_right j)) row);
      lane = λ i m. same_is (has (get_or fixed j 0) i) (has i j) (each_elim 64 (fixed_right j) (and_right (ltb (get_or fixed j 0) (2 ^ 64)) (each 64 (fixed_right j)) row) i m);
    }

-- the lowest lane is the place of the lowest 1
pub lowest_one : (w : ℕ) → w < 2 ^ 64 → trailing_zeros w64 w ≡ lowest_lane w
unfolding lowest_lane has
lowest_one zero s = trailing_of_zero 64 ∙ sym (rw (least_not 64 (has 0) (λ j m. has_none j)))
lowest_one (suc n) s =
    let (l, one, below) = bit_at-trailing_zeros w64 (suc n) (omega arith) s in
    sym (rw (least_found 64 (has (suc n)) (trailing_zeros w64 (suc n)) l (eq-eqb (bit_at (suc n) (trailing_zeros w64 (suc n))) 1 one)
    (λ j m. ne_eqb (bit_at (suc n) j) 1 (λ h. let z = below j m in omega arith))))

-- no lane below
abbrev pub NoneBelow : ℕ → ℕ → Type 0
NoneBelow w i = (j : ℕ) → j < i → has w j ≡ false

-- a word that is not 0 has a lowest lane
pub lowest_is : (w i : ℕ) → w < 2 ^ 64 → (w ≡ 0 → ⊥) → i ≡ lowest_lane w → (i < 64) × (has w i ≡ true) × NoneBelow w i
unfolding lowest_lane
lowest_is w i s n e =
    let (j, m, t) = some_bit 64 w s n in
    least_some 64 (has w) i ((least_told 64 (has w) i e).1 (λ z. clash (cc (t, least_none 64 (has w) ((least_told 64 (has w) i e).0 z) j m))))

-- no lane is past the 64th
pub lowest_most : (w i : ℕ) → i ≡ lowest_lane w → i ≤ 64
unfolding lowest_lane
lowest_most w i e = go (least 64 (has w)) refl
  where
    go : (o : Option ℕ) → least 64 (has w) ≡ o → i ≤ 64
    go none h = let z : i ≡ 64 = e ∙ rw h in omega arith
    go (some j) h = let z : i ≡ j = e ∙ rw h in let (l, t, f) = least_some 64 (has w) j h in omega arith
