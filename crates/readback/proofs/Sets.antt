-- The names of a set: they are names, they are known, and read back they are the set.
-- Assumes nothing.
use Prim.Native.Nat.{ℕ, zero, suc, ◌+◌, ◌*◌, ◌/◌, ◌%◌, ◌^◌, ◌<◌}
use native.Mathlib.Omega.{arith}
use native.Mathlib.Nat.{mod-lt, mod-eq_of_lt}
use mathlib.Core.Path.{◌≡◌, refl, sym, ◌∙◌, ap}
use mathlib.Core.Bool.{Bool, true, false}
use mathlib.Core.List.{List, [], ◌∷◌, map}
use lib.ListN.{length}
use lib.Pow.{pow_pos, mod-pow-add}
use borrow.Author.Tests.{eqb-true, eqb-false}
use Rattle.model.specs.Words.{kept, keep, listed, has}
use Rattle.model.proofs.Words.{and_both}
use Rattle.model.proofs.Bits.{has_past}
use Rattle.grammar.specs.Grammar as G
use Rattle.grammar.specs.Grammar.{Name}
use Rattle.encoding.specs.Numbers.{Every}
use Rattle.encoding.proofs.All.{every_turned}
use Rattle.naming.specs.NameLists.{Lists, child_names, number_in, listed_in}
use Rattle.naming.specs.Naming.{with_bit, names_set, set_of}
use Rattle.naming.specs.Known.{names_known, set_known}
use Rattle.naming.proofs.TableLaws.{IsName}
use Rattle.writings.specs.Layout.{name_at, names_of}
use Rattle.readback.specs.Trees.{names_from, set_tree}
use Rattle.readback.proofs.RightLists.{RightList, is_named, number_back, listed_back}
use Rattle.readback.proofs.Nameable.{bits, NamedSet}

-- what holds of f at each entry holds of the entries that f makes
every_made : {A B : Type 0} (P : A → Type 0) (Q : B → Type 0) (f : A → B) → ((x : A) → P x → Q (f x)) → (xs : List A) → Every P xs → Every Q (map f xs)
every_made P Q f e [] h = tt
every_made P Q f e (x ∷ xs) h = (e x h.0, every_made P Q f e xs h.1)

-- the names put into a set one by one
unfoldable list_set : List (List ℕ) → ℕ → List Name → ℕ
list_set full v [] = v
list_set full v (n ∷ ns) = list_set full (with_bit (has v (number_in full n)) v (number_in full n)) ns

names_value : (full : List (List ℕ)) (ns : List Name) (before : G.Names) → names_set full (names_from before ns) ≡ list_set full (names_set full before) ns
unfolding list_set names_set names_from
names_value full [] before = refl
names_value full (n ∷ ns) before = names_value full ns (G.more before n)

first_bit : (p : ℕ) → with_bit (has 0 p) 0 p ≡ 2 ^ p
first_bit p = rw (has_past 0 p (pow_pos p)) (let z : 0 + 2 ^ p ≡ 2 ^ p = omega arith in z)

set_value : (full : List (List ℕ)) (ns : List Name) → 0 < length ns → set_of full (set_tree ns) ≡ list_set full 0 ns
unfolding set_of set_tree list_set names_set
set_value full [] h = absurd (omega arith)
set_value full (n ∷ []) h = sym (first_bit (number_in full n))
set_value full (n ∷ (m ∷ ns)) h =
    names_value full (m ∷ ns) (G.one n) ∙ ap (λ (v : ℕ). list_set full v (m ∷ ns)) (sym (first_bit (number_in full n)))

-- the low bits of a number, and one bit more
low_next : (s i : ℕ) → s % 2 ^ suc i ≡ (s / 2 ^ i % 2) * 2 ^ i + s % 2 ^ i
low_next s i = ap (λ (k : ℕ). s % 2 ^ k) (let z : suc i ≡ 1 + i = omega arith in z) ∙ mod-pow-add s 1 i

low_more : (s i : ℕ) → has s i ≡ true → s % 2 ^ i + 2 ^ i ≡ s % 2 ^ suc i
unfolding has
low_more s i h =
    sym
    (low_next s i ∙ (ap (λ (d : ℕ). d * 2 ^ i + s % 2 ^ i) (eqb-true (s / 2 ^ i % 2) 1 h) ∙ (let z : 1 * 2 ^ i + s % 2 ^ i ≡ s % 2 ^ i + 2 ^ i = omega arith in z)))

low_same : (s i : ℕ) → has s i ≡ false → s % 2 ^ i ≡ s % 2 ^ suc i
unfolding has
low_same s i h =
    let n = eqb-false (s / 2 ^ i % 2) 1 h in
    let d : s / 2 ^ i % 2 ≡ 0 = omega arith in
    sym (low_next s i ∙ (ap (λ (d : ℕ). d * 2 ^ i + s % 2 ^ i) d ∙ (let z : 0 * 2 ^ i + s % 2 ^ i ≡ s % 2 ^ i = omega arith in z)))

-- a bit that the set has, put to the bits below it
low_added : (s i p : ℕ) → p ≡ i → has s i ≡ true → with_bit (has (s % 2 ^ i) p) (s % 2 ^ i) p ≡ s % 2 ^ suc i
low_added s i p e h = rw (e, has_past (s % 2 ^ i) i (mod-lt s (pow_pos i))) (low_more s i h)

module _ (full : List (List ℕ)) (f : ℕ → Name) (s : ℕ) where
  -- names with their numbers, from number i on, put to the bits below i
  bits_value : (i n to : ℕ) → to ≡ i + n → Every (λ j. number_in full (f j) ≡ j) (keep (has s) (listed i n (λ j. j)))
      → list_set full (s % 2 ^ i) (map f (keep (has s) (listed i n (λ j. j)))) ≡ s % 2 ^ to
  unfolding list_set keep listed
  bits_value i zero to e h = ap (λ (k : ℕ). s % 2 ^ k) (let z : i ≡ to = omega arith in z)
  bits_value i (suc n) to e h = go (has s i) refl h (bits_value (suc i) n to (omega arith))
    where
      go : (b : Bool) → has s i ≡ b → Every (λ j. number_in full (f j) ≡ j) (kept b i (keep (has s) (listed (suc i) n (λ j. j))))
          → (Every (λ j. number_in full (f j) ≡ j) (keep (has s) (listed (suc i) n (λ j. j)))
          → list_set full (s % 2 ^ suc i) (map f (keep (has s) (listed (suc i) n (λ j. j)))) ≡ s % 2 ^ to)
          → list_set full (s % 2 ^ i) (map f (kept b i (keep (has s) (listed (suc i) n (λ j. j))))) ≡ s % 2 ^ to
      go false b h r = ap (λ (v : ℕ). list_set full v (map f (keep (has s) (listed (suc i) n (λ j. j))))) (low_same s i b) ∙ r h
      go true b h r = ap (λ (v : ℕ). list_set full v (map f (keep (has s) (listed (suc i) n (λ j. j))))) (low_added s i (number_in full (f i)) h.0 b) ∙ r h.1

  all_bits : s < 2 ^ 32 → Every (λ j. number_in full (f j) ≡ j) (bits s) → list_set full 0 (map f (bits s)) ≡ s
  all_bits l h =
      ap (λ (v : ℕ). list_set full v (map f (bits s))) (let z : 0 ≡ s % 2 ^ 0 = omega arith in z) ∙ (bits_value 0 32 32 refl h ∙ mod-eq_of_lt l)

-- names of the list behind known names
more_known : (l : Lists) (ns : List Name) (before : G.Names) → names_known l before ≡ true → Every (λ n. listed_in (child_names l) n ≡ true) ns
    → names_known l (names_from before ns) ≡ true
unfolding names_known names_from
more_known l [] before b h = b
more_known l (n ∷ ns) before b h = more_known l ns (G.more before n) (and_both (names_known l before) (listed_in (child_names l) n) b h.0) h.1

names_all_known : (l : Lists) (ns : List Name) → 0 < length ns → Every (λ n. listed_in (child_names l) n ≡ true) ns → set_known l (set_tree ns) ≡ true
unfolding set_known set_tree names_known
names_all_known l [] b h = absurd (omega arith)
names_all_known l (n ∷ []) b h = h.0
names_all_known l (n ∷ (m ∷ ns)) b h = more_known l (m ∷ ns) (G.one n) h.0 h.1

module _ (l : Lists) (r : RightList 32 l.names) (s : ℕ) (h : NamedSet l s) where
  value : list_set (child_names l) 0 (names_of l.names s) ≡ s
  unfolding names_of
  value =
      all_bits (child_names l) (name_at 32 l.names) s h.1
      (every_turned (λ i. i < length (child_names l)) (λ i. number_in (child_names l) (name_at 32 l.names i) ≡ i) (λ i b. number_back r i b) (bits s) h.2)

  -- the set has a name
  pub some_name : 0 < length (names_of l.names s)
  unfolding list_set
  some_name = go (names_of l.names s) value
    where
      go : (ns : List Name) → list_set (child_names l) 0 ns ≡ s → 0 < length ns
      go [] e = absurd (let z : 0 ≡ s = e in let k = h.0 in omega arith)
      go (n ∷ ns) e = omega arith

  pub set_named : Every IsName (names_of l.names s)
  unfolding names_of
  set_named = every_made (λ i. i < length (child_names l)) IsName (name_at 32 l.names) (λ i b. is_named r i b) (bits s) h.2

  pub set_is_known : set_known l (set_tree (names_of l.names s)) ≡ true
  unfolding names_of
  set_is_known =
      names_all_known l (names_of l.names s) some_name
      (every_made (λ i. i < length (child_names l)) (λ n. listed_in (child_names l) n ≡ true) (name_at 32 l.names) (λ i b. listed_back r i b) (bits s) h.2)

  pub set_back : set_of (child_names l) (set_tree (names_of l.names s)) ≡ s
  set_back = set_value (child_names l) (names_of l.names s) some_name ∙ value
