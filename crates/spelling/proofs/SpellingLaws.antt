-- Laws of the words of a class text: a name of a list, an indent, the names of a set.
-- Assumes nothing.
use Prim.Native.Nat.{ℕ, zero, suc, ◌+◌, ◌-◌, ◌*◌, ◌/◌, ◌^◌, ◌<◌, ◌≤◌}
use Rattle.std.specs.Prelude.{Option, Some, None, MatchOption, cond, count_ones, get_or}
use Rattle.std.specs.List.{count_by}
use Rattle.std.specs.Simd.Lanes.{mask_l}
use Rattle.std.proofs.lemmas.List.Recursion.{is_count_by}
use Rattle.std.proofs.lemmas.List.{get_or-map}
use Rattle.std.proofs.lemmas.Simd.{mask_l-lt, bit_mask_l, ones-mask_l}
use native.Mathlib.Omega.{arith}
use mathlib.Core.Path.{◌≡◌, refl, sym, ◌∙◌, ap}
use mathlib.Core.Bool.{Bool, true, false}
use mathlib.Core.List.{List, [], ◌∷◌, ◌++◌, map, append-nil}
use lib.Dec.{eqb}
use lib.ListN.{length, take, drop, length-map}
use Rattle.model.specs.Words.{kept, keep, listed, has}
use Rattle.model.proofs.Lists.{length_listed, get_or_listed, get_or_past}
use Rattle.model.proofs.Masks.{same_bits}
use Rattle.grammar.specs.Grammar.{Name}
use Rattle.grammar.specs.Words.{spelled}
use Rattle.naming.specs.NameLists.{characters, records_in}
use Rattle.lists.specs.Lent.{name_record, Count}
use Rattle.lists.proofs.TableLaws.{left_cons, left_none}
use Rattle.pen.specs.Writing.{Puts}
use Rattle.pen.proofs.Puts.{puts_on}
use Rattle.model.specs.declared.ChildClass.{ChildClass}
use Rattle.records.specs.Patterns.{pattern_as}
use Rattle.records.specs.declared.kinds.Pattern.{Pattern}
use Rattle.records.specs.declared.kinds.Pattern.TheVariants.{Everyone, OfClass}
use Rattle.writings.specs.Layout.{name_at, indent, kin_text, names_of, commas, set_text}
use Rattle.spelling.specs.Spelling.{numbers_from, names_from, row, braced, First}

-- a name of a list of n records, and none past its end
module _ (size : ℕ) (b : List ℕ) (i n : ℕ) (k : Count b size n) where
  pub name_there : i < n → characters (name_record size b i) ≡ name_at size b i
  unfolding name_at records_in
  name_there l =
      let m : i < length b / size = rw (← k.is) l in
      ap characters (sym (get_or_listed 0 (length b / size) (λ j. take 32 (drop (j * size) b)) [] i i m (omega arith)))

  pub name_past : n ≤ i → [] ≡ name_at size b i
  unfolding name_at records_in characters
  name_past l =
      let m : length b / size ≤ i = rw (← k.is) l in
      ap characters (sym (get_or_past 0 (length b / size) (λ j. take 32 (drop (j * size) b)) [] i m))

-- the word for all children, and the name of a class
pub kin_all : (classes : List ℕ) (p : Pattern) → p ≡ Everyone → spelled "FwCHILDREN" ≡ kin_text classes (pattern_as p)
unfolding kin_text
kin_all classes p e = rw e

pub kin_one : (classes : List ℕ) (p : Pattern) (x : ChildClass) → p ≡ OfClass x → name_at 36 classes x.0 ≡ kin_text classes (pattern_as p)
unfolding kin_text
kin_one classes p x e = rw e

-- an indent of which i levels are written, a level more
pub level_on : (v i : ℕ) → i < v → indent (v - i) ≡ (32 ∷ 32 ∷ []) ++ indent (v - (i + 1))
unfolding indent
level_on v i l = ap indent (let e : v - i ≡ suc (v - (i + 1)) = omega arith in e)

pub level_none : (v i : ℕ) → v ≤ i → indent (v - i) ≡ []
unfolding indent
level_none v i l = ap indent (let e : v - i ≡ 0 = omega arith in e)

-- the numbers of a set's names, number by number
module _ (s i : ℕ) where
  pub number_here : i < 32 → has s i ≡ true → numbers_from s i ≡ i ∷ numbers_from s (i + 1)
  unfolding numbers_from keep
  number_here l h = rw (left_cons {A = ℕ} (λ j. j) 32 i l, h)

  pub number_on : i < 32 → has s i ≡ false → numbers_from s i ≡ numbers_from s (i + 1)
  unfolding numbers_from keep
  number_on l h = rw (left_cons {A = ℕ} (λ j. j) 32 i l, h)

  pub number_over : 32 ≤ i → numbers_from s i ≡ []
  unfolding numbers_from keep
  number_over l = rw (left_none {A = ℕ} (λ j. j) 32 i l)

-- numbers that the set has not are passed over
pub numbers_past : (s i : ℕ) → i ≤ 32 → ((k : ℕ) → k < i → has s k ≡ false) → numbers_from s 0 ≡ numbers_from s i
numbers_past s zero l h = refl
numbers_past s (suc i) l h =
    numbers_past s i (omega arith) (λ k m. h k (omega arith))
    ∙ number_on s i (omega arith) (h i (omega arith))
    ∙ ap (numbers_from s) (let e : i + 1 ≡ suc i = omega arith in e)

-- the first number of a set, by what is known of those before it
pub first_told : (s : ℕ) (o : Option ℕ)
    → MatchOption o ((k : ℕ) → 0 ≤ k → k < 32 → has s k ≡ false) (λ r. (0 ≤ r) × (r < 32) × (has s r ≡ true) × ((k : ℕ) → 0 ≤ k → k < r → has s k ≡ false))
    → First s o
first_told s None h = numbers_past s 32 (omega arith) (λ k l. h k (omega arith) l) ∙ number_over s 32 (omega arith)
first_told s (Some r) (z, l, t, h) = (l, numbers_past s r (omega arith) (λ k m. h k (omega arith) m) ∙ number_here s r l t)

-- how many numbers a set has
keep_count : (f : ℕ → Bool) (xs : List ℕ) → length (keep f xs) ≡ count_by f xs
unfolding keep
keep_count f = is_count_by (λ xs. length (keep f xs)) f refl (λ x xs. go (f x) x xs)
  where
    go : (b : Bool) (x : ℕ) (xs : List ℕ) → length (kept b x (keep f xs)) ≡ cond b (1 + length (keep f xs)) (length (keep f xs))
    go true x xs = omega arith
    go false x xs = refl

-- the bits of a mask of 32 tests
mask_has : (f : ℕ → Bool) (n : ℕ) → n < 32 → f n ≡ has (mask_l (map f (listed 0 32 (λ j. j)))) n
unfolding has
mask_has f n l =
    let js = listed 0 32 (λ j. j) in
    let m : n < length js = rw (length_listed 0 32 (λ j. j)) l in
    let e : get_or (map f js) n false ≡ f n = get_or-map f js n 0 false m ∙ ap f (get_or_listed 0 32 (λ j. j) 0 n n l (omega arith)) in
    rw (bit_mask_l (map f js) n, e) (go (f n))
  where
    go : (b : Bool) → b ≡ eqb (cond b 1 0) 1
    go true = refl
    go false = refl

module _ (s : ℕ) (small : s < 2 ^ 32) where
  pub how_many : count_ones s ≡ length (numbers_from s 0)
  unfolding numbers_from
  how_many =
      let js = listed 0 32 (λ j. j) in
      let n : length (map (has s) js) ≡ 32 = length-map js (has s) ∙ length_listed 0 32 (λ j. j) in
      let same : s ≡ mask_l (map (has s) js) = same_bits 32 s (mask_l (map (has s) js)) small (rw n at (mask_l-lt (map (has s) js))) (mask_has (has s)) in
      ap count_ones same ∙ ones-mask_l (has s) js ∙ sym (keep_count (has s) js)

-- the names with commas, name by name
module _ (names : List ℕ) (s i : ℕ) where
  pub commas_on : i < 32 → (t : Bool) → t ≡ has s i → t ≡ true → commas (names_from names s i) ≡ (44 ∷ 32 ∷ []) ++ name_at 32 names i ++ commas (names_from names s (i + 1))
  unfolding commas spelled listed
  commas_on l t e h = rw (number_here s i l (sym e ∙ h))

  pub commas_past : i < 32 → (t : Bool) → t ≡ has s i → t ≡ false → commas (names_from names s i) ≡ commas (names_from names s (i + 1))
  commas_past l t e h = rw (number_on s i l (sym e ∙ h))

  pub commas_over : 32 ≤ i → commas (names_from names s i) ≡ []
  unfolding commas
  commas_over l = rw (number_over s i l)

-- the first name, and the others behind their commas
module _ (names : List ℕ) (s : ℕ) where
  pub row_some : (r : ℕ) → First s (Some r) → name_at 32 names r ++ commas (names_from names s (r + 1)) ≡ row (names_from names s 0)
  unfolding row
  row_some r k = rw k.1

  pub row_none : First s None → [] ≡ row (names_from names s 0)
  unfolding row
  row_none k = rw k

-- braces
pub braces : (ns : List Name) {before a b after : List ℕ} {at i j r : ℕ} → Puts (123 ∷ []) before at a i → Puts (row ns) a i b j → Puts (125 ∷ []) b j after r
    → Puts (braced ns) before at after r
unfolding braced spelled listed
braces ns p q t = puts_on (puts_on p q) t

-- stand round the names of a set that has not one
pub set_one : (ns : List Name) → length ns ≡ 1 → row ns ≡ set_text ns
unfolding row set_text commas
set_one [] e = absurd (omega arith)
set_one (n ∷ []) e = append-nil n
set_one (n ∷ (m ∷ ns)) e = absurd (omega arith)

pub set_braced : (ns : List Name) → (length ns ≡ 1 → ⊥) → braced ns ≡ set_text ns
unfolding row braced set_text spelled listed
set_braced [] h = refl
set_braced (n ∷ []) h = absurd (h refl)
set_braced (n ∷ (m ∷ ns)) h = refl

-- the names of a set are those from 0 on
module _ (names : List ℕ) (s : ℕ) (small : s < 2 ^ 32) where
  pub set_alone : count_ones s ≡ 1 → row (names_from names s 0) ≡ set_text (names_of names s)
  unfolding names_of numbers_from
  set_alone h = set_one (names_from names s 0) (length-map (numbers_from s 0) (name_at 32 names) ∙ sym (how_many s small) ∙ h)

  pub set_not_alone : (count_ones s ≡ 1 → ⊥) → braced (names_from names s 0) ≡ set_text (names_of names s)
  unfolding names_of numbers_from
  set_not_alone h = set_braced (names_from names s 0) (λ k. h (how_many s small ∙ sym (length-map (numbers_from s 0) (name_at 32 names)) ∙ k))
