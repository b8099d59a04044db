-- Laws of the records of a list: where they stand, and when one is that of a name.
-- Assumes nothing.
use Prim.Native.Nat.{ℕ, zero, suc, ◌+◌, ◌-◌, ◌*◌, ◌/◌, ◌<◌, ◌≤◌}
use native.Mathlib.Nat.{mul-le-mul_right, div-mul-le_self}
use native.Mathlib.Omega.{arith}
use native.Mathlib.Numerals.{add-one}
use mathlib.Core.Path.{◌≡◌, refl, sym, ◌∙◌, ap}
use mathlib.Core.Bool.{Bool, true, false, ◌&&◌, ◌||◌, not}
use mathlib.Core.List.{List, [], ◌∷◌, ◌++◌, append-nil}
use lib.Dec.{eqb, ltb, leb}
use lib.ListN.{length, get_or, take, drop, length-take, length-drop, length-append, take-append-drop, drop_of_length-le}
use lib.Seq.{take-suc, drop-cons, append_snoc, get_or-take, get_or-drop}
use borrow.Author.Tests.{eq-eqb, ne_eqb, lt-ltb, le-ltb, leb-true, leb-false}
use Rattle.model.specs.Words.{every, listed, each, has}
use Rattle.model.proofs.Words.{clash, and_left, and_right, not_not_true, each_broken, each_all}
use Rattle.model.proofs.Lists.{get_or_listed, get_or_past}
use Rattle.records.specs.Bytes.{u32}
use Rattle.grammar.specs.Words.{same, is_name}
use Rattle.grammar.proofs.Words.{same_length}
use Rattle.naming.specs.NameLists.{padded, characters, record_right, records_in, bits_named}
use Rattle.lists.specs.Lent.{name_record, sets_in, all_zero, Characters, Count}
use Rattle.lists.proofs.TableLaws.{left, left_all}

-- a record stands inside its list
pub record_inside : (b : List ℕ) (size i : ℕ) → i < length b / size → i * size + size ≤ length b
record_inside b size i l =
    let h : (i + 1) * size ≤ length b / size * size = mul-le-mul_right size (let z : i + 1 ≤ length b / size = omega arith in z) in
    let k = div-mul-le_self (length b) size in
    let e : (i + 1) * size ≡ i * size + size = omega arith in
    omega arith

pub record_length : (b : List ℕ) (size i : ℕ) → 32 ≤ size → i < length b / size → length (name_record size b i) ≡ 32
record_length b size i h l =
    let k = record_inside b size i l in
    simp (length-take, length-drop) (omega arith)

-- the characters that stand before the first zero
pub record Reading (r : List ℕ) (n : ℕ) : Type 0 where
  pub inside : n ≤ length r
  pub so_far : take n r ++ characters (drop n r) ≡ characters r

pub reading_none : (r : List ℕ) → Reading r 0
reading_none r = record { inside = omega arith; so_far = refl }

module _ (r : List ℕ) (n : ℕ) (s : Reading r n) where
  pub reading_on : n < length r → (get_or r n 0 ≡ 0 → ⊥) → Reading r (n + 1)
  unfolding characters
  reading_on l h = record { inside = omega arith; so_far = rw (add-one n) (rw (take-suc r n 0 l, append_snoc) (step ∙ s.so_far)) }
    where
      step : take n r ++ get_or r n 0 ∷ characters (drop (suc n) r) ≡ take n r ++ characters (drop n r)
      step = rw (drop-cons r n 0 l, ne_eqb (get_or r n 0) 0 h)

  pub reading_found : n < length r → get_or r n 0 ≡ 0 → Characters r n
  unfolding characters
  reading_found l h = record { inside = s.inside; whole = sym step ∙ s.so_far }
    where
      step : take n r ++ characters (drop n r) ≡ take n r
      step = rw (drop-cons r n 0 l, eq-eqb (get_or r n 0) 0 h) (simp append-nil)

  pub reading_over : length r ≤ n → Characters r n
  unfolding characters
  reading_over l =
      let i = s.inside in
      let e : n ≡ length r = omega arith in
      record { inside = s.inside; whole = sym step ∙ s.so_far }
    where
      step : take n r ++ characters (drop n r) ≡ take n r
      step = rw (drop_of_length-le r l) (simp append-nil)

-- two strings are the same where both parts are
pub same_append : (a b c d : List ℕ) → length a ≡ length b → same (a ++ c) (b ++ d) ≡ (same a b && same c d)
unfolding same
same_append [] [] c d e = refl
same_append [] (y ∷ b) c d e = absurd (omega arith)
same_append (x ∷ a) [] c d e = absurd (omega arith)
same_append (x ∷ a) (y ∷ b) c d e = go (eqb x y) (same_append a b c d (omega arith))
  where
    go : (t : Bool) → same (a ++ c) (b ++ d) ≡ (same a b && same c d) → (t && same (a ++ c) (b ++ d)) ≡ (t && same a b && same c d)
    go true h = h
    go false h = refl

same_zeros : (l : List ℕ) (i n : ℕ) → length l ≡ n → same l (listed i n (λ _. 0)) ≡ all_zero l
unfolding same listed all_zero every
same_zeros [] i zero e = refl
same_zeros [] i (suc n) e = absurd (omega arith)
same_zeros (x ∷ l) i zero e = absurd (omega arith)
same_zeros (x ∷ l) i (suc n) e = ap (λ (t : Bool). eqb x 0 && t) (same_zeros l (suc i) n (omega arith))

-- a record is that of a word: the word's bytes, and zeros behind them
module _ (r w : List ℕ) (e : length r ≡ 32) where
  pub record_is : length w ≤ 32 → same r (padded w) ≡ (same (take (length w) r) w && all_zero (drop (length w) r))
  unfolding padded
  record_is l =
      ap (λ (x : List ℕ). same x (w ++ listed 0 (32 - length w) (λ _. 0))) (sym (take-append-drop (length w) r))
      ∙ same_append (take (length w) r) w (drop (length w) r) (listed 0 (32 - length w) (λ _. 0)) (simp length-take (omega arith))
      ∙ ap (λ (t : Bool). same (take (length w) r) w && t) (same_zeros (drop (length w) r) 0 (32 - length w) (simp length-drop (omega arith)))

  -- as the code cuts the record
  module _ (l : length w ≤ 32) (x : Bool) (f : x ≡ same (take (length w - 0) (drop 0 r)) w) where
    front : same (take (length w) r) w ≡ x
    front = ap (λ (n : ℕ). same (take n r) w) (let z : length w ≡ length w - 0 = omega arith in z) ∙ sym f

    pub record_differs : x ≡ false → false ≡ same r (padded w)
    record_differs h = sym (record_is l ∙ rw (front, h))

    pub record_zeros : x ≡ true → (z : Bool) → z ≡ all_zero (drop (length w) r) → z ≡ same r (padded w)
    record_zeros h z g = g ∙ sym (record_is l ∙ rw (front, h))

  pub record_too_short : 32 < length w → false ≡ same r (padded w)
  unfolding padded
  record_too_short l = sym (not_not_true (same r (padded w)) (λ h. go (same_length r (padded w) h)))
    where
      go : length r ≡ length (padded w) → ⊥
      go k = let h = length-append w (listed 0 (32 - length w) (λ _. 0)) in omega arith

-- the name set of a class
pub set_past : (b : List ℕ) (i : ℕ) → length b / 36 ≤ i → 0 ≡ get_or (sets_in b) i 0
unfolding sets_in
set_past b i l = sym (get_or_past 0 (length b / 36) (λ i. u32 b (i * 36 + 32)) 0 i l)

pub set_there : (b : List ℕ) (i n : ℕ) → i < length b / 36 → 36 ≤ n → u32 (take n (drop (i * 36) b)) 32 ≡ get_or (sets_in b) i 0
unfolding sets_in
set_there b i n l m = at ∙ sym (get_or_listed 0 (length b / 36) (λ i. u32 b (i * 36 + 32)) 0 i i l (omega arith))
  where
    one : (k a : ℕ) → k < 36 → a ≡ i * 36 + k → get_or (take n (drop (i * 36) b)) k 0 ≡ get_or b a 0
    one k a h e = rw e (get_or-take n (drop (i * 36) b) k 0 (omega arith) ∙ get_or-drop (i * 36) b k 0)

    at : u32 (take n (drop (i * 36) b)) 32 ≡ u32 b (i * 36 + 32)
    at =
        rw (
          one 32 (i * 36 + 32) (omega arith) (omega arith),
          one 33 (i * 36 + 32 + 1) (omega arith) (omega arith),
          one 34 (i * 36 + 32 + 2) (omega arith) (omega arith),
          one 35 (i * 36 + 32 + 3) (omega arith) (omega arith),
        )

-- every bit has a name
abbrev pub bit_named : ℕ → ℕ → ℕ → Bool
bit_named n s i = not (has s i) || ltb i n

pub bit_on : (n s i : ℕ) (t : Bool) → t ≡ has s i → (t && leb n i) ≡ false → bit_named n s i ≡ true
bit_on n s i t e h = go t (leb n i) refl h (sym e)
  where
    go : (a c : Bool) → leb n i ≡ c → (a && c) ≡ false → has s i ≡ a → bit_named n s i ≡ true
    go true true f g k = absurd (clash (cc))
    go true false f g k = rw (k, lt-ltb i n (leb-false n i f))
    go false c f g k = rw k

pub bit_broken : (n s i : ℕ) (t : Bool) → t ≡ has s i → (t && leb n i) ≡ true → bit_named n s i ≡ false
bit_broken n s i t e h =
    let k : has s i ≡ true = sym e ∙ and_left t (leb n i) h in
    rw (k, le-ltb i n (leb-true n i (and_right t (leb n i) h)))

module _ (n s i : ℕ) where
  pub bits_broken : i < 32 → bit_named n s i ≡ false → false ≡ bits_named n s
  unfolding bits_named
  bits_broken l h = sym (each_broken 32 i (bit_named n s) l h)

  pub bits_over : 32 ≤ i → i ≤ 32 → each i (bit_named n s) ≡ true → true ≡ bits_named n s
  unfolding bits_named
  bits_over l m h = sym (each_all 32 i (bit_named n s) m l h)

-- all records, before the first is looked at
pub entries : (b : List ℕ) (size n : ℕ) → Count b size n → records_in size b ≡ left (name_record size b) n 0
unfolding records_in
entries b size n k = rw k.is (left_all (name_record size b) (length b / size))

-- the characters, as the code cuts them off
pub front_is : (r : List ℕ) (n : ℕ) → Characters r n → take (n - 0) (drop 0 r) ≡ characters r
front_is r n k = ap (λ (m : ℕ). take m r) (let z : n - 0 ≡ n = omega arith in z) ∙ k.whole

-- a record is that of the name that its characters are
pub right_told : (r : List ℕ) (n : ℕ) → Characters r n → (x y : Bool) → x ≡ is_name (take (n - 0) (drop 0 r)) → y ≡ same r (padded (take (n - 0) (drop 0 r)))
    → (x && y) ≡ record_right r
unfolding record_right
right_told r n k x y e f = rw (e, f, front_is r n k)
