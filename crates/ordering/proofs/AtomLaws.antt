-- What is read behind a quantifier is the atom that stands there, and its words change nothing more.
-- Assumes nothing.
use Prim.Native.Nat.{ℕ, ◌≤◌, ◌<◌, ◌^◌}
use native.Mathlib.Omega.{arith}
use mathlib.Core.Path.{◌≡◌, refl, ◌∙◌, ap}
use mathlib.Core.Bool.{true, ◌&&◌}
use mathlib.Core.List.{List, ◌∷◌}
use lib.ListN.{length}
use borrow.Author.Tests.{ltb-true, lt-ltb}
use Rattle.model.specs.Words.{has}
use Rattle.model.proofs.Words.{and_left, and_right}
use Rattle.model.proofs.Bits.{has_none}
use Rattle.grammar.specs.Grammar as G
use Rattle.grammar.specs.Grammar.{Token, fixed, name, Name, comma_word, right_word, Kin, Names, Set, Quantifier, Side, kin_words, names_words, set_words, quantifier_word, side_word}
use Rattle.grammar.specs.Kinds as K
use Rattle.naming.specs.NameLists.{Lists, child_names, class_names, number_in, listed_in}
use Rattle.naming.specs.Naming.{with_bit, names_set, set_of, pattern_of, kind_of}
use Rattle.naming.specs.Known.{names_known, set_known, kin_known}
use Rattle.encoding.specs.Encoding.{kind_number, pattern_number}
use Rattle.std.specs.Prelude.{Some}
use Rattle.ordering.specs.Ordering.{Way, pattern_in, with_name, braced, set_ahead, side_ahead, atom_ahead, mark_of, with_atom, turn, walked}

-- the words of kins and sets are passed over
module _ (names classes : List (List ℕ)) where
  abbrev Passed : (List Token → List Token) → Type 0
  Passed words = (rest : List Token) (w : Way) → walked names classes (words rest) w ≡ walked names classes rest w

  pub kin_passed : (k : Kin) → Passed (kin_words k)
  unfolding kin_words walked turn mark_of K.kind_of
  kin_passed G.children rest w = refl
  kin_passed (G.kin n) rest w = refl

  pub side_passed : (s : Side) → Passed (λ rest. fixed (side_word s) ∷ rest)
  unfolding side_word walked turn mark_of K.kind_of
  side_passed G.inside rest w = refl
  side_passed G.outside rest w = refl

  names_passed : (ns : Names) → Passed (names_words ns)
  unfolding names_words walked turn mark_of K.kind_of
  names_passed (G.one n) rest w = refl
  names_passed (G.more ns n) rest w = names_passed ns (fixed comma_word ∷ name n ∷ rest) w

  pub set_passed : (s : Set) → Passed (set_words s)
  unfolding set_words walked turn mark_of K.kind_of
  set_passed (G.single n) rest w = refl
  set_passed (G.braces ns) rest w = names_passed ns (fixed right_word ∷ rest) w

module _ (l : Lists) (few : length (child_names l) ≤ 32) (fewer : length (class_names l) ≤ 8) where
  abbrev names : List (List ℕ)
  names = child_names l

  abbrev classes : List (List ℕ)
  classes = class_names l

  -- a known name adds its bit once
  name_bit : (s : ℕ) (n : Name) → listed_in names n ≡ true → with_name names s n ≡ with_bit (has s (number_in names n)) s (number_in names n)
  unfolding with_name listed_in
  name_bit s n k =
      let i : ℕ = number_in names n in
      let h : i < length names = ltb-true i (length names) k in
      let z : i < 32 = omega arith in
      rw (lt-ltb i 32 z)

  first_bit : (n : Name) → listed_in names n ≡ true → with_name names 0 n ≡ 2 ^ number_in names n
  first_bit n k = name_bit 0 n k ∙ rw (has_none (number_in names n)) (omega arith)

  names_braced : (ns : Names) (rest : List Token) → names_known l ns ≡ true → braced names (names_words ns rest) 0 ≡ braced names rest (names_set names ns)
  unfolding names_words names_known names_set braced
  names_braced (G.one n) rest k = ap (braced names rest) (first_bit n k)
  names_braced (G.more ns n) rest k =
      names_braced ns (fixed comma_word ∷ name n ∷ rest) (and_left (names_known l ns) (listed_in names n) k)
      ∙ ap (braced names rest) (name_bit (names_set names ns) n (and_right (names_known l ns) (listed_in names n) k))

  set_read : (s : Set) (rest : List Token) → set_known l s ≡ true → set_ahead names (set_words s rest) ≡ set_of names s
  unfolding set_words set_known set_of set_ahead braced
  set_read (G.single n) rest k = first_bit n k
  set_read (G.braces ns) rest k = names_braced ns (fixed right_word ∷ rest) k

  class_read : (n : Name) → listed_in classes n ≡ true → pattern_in classes (name n) ≡ number_in classes n
  unfolding pattern_in listed_in
  class_read n k =
      let i : ℕ = number_in classes n in
      let h : i < length classes = ltb-true i (length classes) k in
      let z : i < 255 = omega arith in
      rw (lt-ltb i 255 z)

  kin_read : (a : ℕ) (k : Kin) (rest : List Token) → kin_known l k ≡ true
      → atom_ahead names classes a (kin_words k rest) ≡ side_ahead names a (pattern_number (pattern_of l k)) rest
  unfolding kin_words kin_known pattern_of atom_ahead pattern_in
  kin_read a G.children rest e = refl
  kin_read a (G.kin n) rest e = ap (λ (p : ℕ). side_ahead names a p rest) (class_read n e)

  -- the kind that a quantifier begins with
  abbrev pub base : Quantifier → ℕ
  base G.any = 0
  base G.all = 2

  side_read : (q : Quantifier) (s : Side) (p : ℕ) (rest : List Token)
      → side_ahead names (base q) p (fixed (side_word s) ∷ rest) ≡ Some (kind_number (kind_of q s), p, set_ahead names rest)
  unfolding side_ahead side_word kind_of kind_number K.kind_of
  side_read G.any G.inside p rest = refl
  side_read G.any G.outside p rest = refl
  side_read G.all G.inside p rest = refl
  side_read G.all G.outside p rest = refl

  pub quantified : (q : Quantifier) (rest : List Token) (w : Way)
      → turn names classes (mark_of (K.kind_of (fixed (quantifier_word q)))) rest w ≡ with_atom (atom_ahead names classes (base q) rest) w
  unfolding mark_of quantifier_word K.kind_of turn
  quantified G.any rest w = refl
  quantified G.all rest w = refl

  pub atom_read : (q : Quantifier) (k : Kin) (s : Side) (t : Set) (rest : List Token) → (kin_known l k && set_known l t) ≡ true
      → atom_ahead names classes (base q) (kin_words k (fixed (side_word s) ∷ set_words t rest))
      ≡ Some (kind_number (kind_of q s), pattern_number (pattern_of l k), set_of names t)
  atom_read q k s t rest e =
      kin_read (base q) k (fixed (side_word s) ∷ set_words t rest) (and_left (kin_known l k) (set_known l t) e)
      ∙ side_read q s (pattern_number (pattern_of l k)) (set_words t rest)
      ∙ ap (λ (n : ℕ). Some (kind_number (kind_of q s), pattern_number (pattern_of l k), n)) (set_read t rest (and_right (kin_known l k) (set_known l t) e))
