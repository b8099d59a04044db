-- Laws of comparing and of the table of fixed words.
-- Assumes nothing.
use Prim.Native.Nat.{ℕ, suc, ◌+◌, ◌-◌, ◌<◌, ◌≤◌}
use native.Mathlib.Omega.{arith}
use native.Mathlib.Numerals.{add-one}
use mathlib.Core.Path.{◌≡◌, refl, sym, ◌∙◌, ap, subst}
use mathlib.Core.Bool.{Bool, true, false, cond, ◌&&◌, ◌||◌, not, and-false}
use mathlib.Core.List.{List, [], ◌∷◌, map}
use lib.Pointwise.{pointwise}
use Rattle.std.specs.Prelude.{Option, Some, None, MatchOption, is_some}
use Rattle.std.specs.Char.{is_ascii_alphanumeric}
use Rattle.std.specs.List.{list_all, position_from, position_or_len}
use Rattle.std.specs.Borrow.{Bor}
use Rattle.std.proofs.lemmas.Iterator.Adapters.{position_from-zero}
use lib.Dec.{eqb, leb, ltb}
use lib.ListN.{length, get_or, drop, drop_of_length-le}
use lib.Seq.{drop-cons, drop-length}
use Rattle.std.proofs.lemmas.List.{length-map}
use borrow.Author.Tests.{eq-eqb, ne_eqb, le-leb, lt-leb, lt-ltb}
use Rattle.model.specs.Words.{choose, every}
use Rattle.model.proofs.Words.{clash}
use Rattle.grammar.specs.Words.{name_char, same, position, fixed_words, bare_runs, is_name}
use Rattle.grammar.specs.Grammar.{fixed}
use Rattle.grammar.specs.Words.{token_of}
use Rattle.grammar.specs.Kinds.{token_as}
use Rattle.grammar.proofs.Words.{same_length}
use Rattle.kinds.specs.Kind.{OfKind, Numbered}

-- two strings
pub same_apart : (a b : List ℕ) → (length a ≡ length b → ⊥) → same a b ≡ false
same_apart a b h = go (same a b) refl
  where
    go : (t : Bool) → same a b ≡ t → t ≡ false
    go true e = absurd (h (same_length a b e))
    go false e = refl

pub same_is : (a b : List ℕ) → pointwise eqb a b ≡ same a b
unfolding same
same_is [] [] = refl
same_is [] (y ∷ b) = refl
same_is (x ∷ a) [] = refl
same_is (x ∷ a) (y ∷ b) = ap (λ (t : Bool). eqb x y && t) (same_is a b)

-- the same, from an entry on
same_step : (x y : ℕ) (xs ys : List ℕ) → eqb x y ≡ true → same (x ∷ xs) (y ∷ ys) ≡ same xs ys
unfolding same
same_step x y xs ys h = rw h

same_stop : (x y : ℕ) (xs ys : List ℕ) → eqb x y ≡ false → same (x ∷ xs) (y ∷ ys) ≡ false
unfolding same
same_stop x y xs ys h = rw h

pub same_on : (a b : List ℕ) (i : ℕ) → same a b ≡ same (drop i a) (drop i b) → i < length a → i < length b → get_or a i 0 ≡ get_or b i 0
    → same a b ≡ same (drop (i + 1) a) (drop (i + 1) b)
same_on a b i s l m e =
    rw (add-one i)
    (s ∙ (λ j. same (drop-cons a i 0 l j) (drop-cons b i 0 m j))
    ∙ same_step (get_or a i 0) (get_or b i 0) (drop (suc i) a) (drop (suc i) b) (eq-eqb (get_or a i 0) (get_or b i 0) e))

pub same_broken : (a b : List ℕ) (i : ℕ) → same a b ≡ same (drop i a) (drop i b) → i < length a → i < length b → (get_or a i 0 ≡ get_or b i 0 → ⊥)
    → same a b ≡ false
same_broken a b i s l m e =
    s ∙ (λ j. same (drop-cons a i 0 l j) (drop-cons b i 0 m j))
    ∙ same_stop (get_or a i 0) (get_or b i 0) (drop (suc i) a) (drop (suc i) b) (ne_eqb (get_or a i 0) (get_or b i 0) e)

nil_same : same [] [] ≡ true
unfolding same
nil_same = refl

pub same_over : (a b : List ℕ) (i : ℕ) → same a b ≡ same (drop i a) (drop i b) → i ≤ length a → length a ≤ i → length a ≡ length b → same a b ≡ true
same_over a b i s u v h =
    let n : i ≡ length a = omega arith in
    let p : drop i a ≡ [] = ap (λ (j : ℕ). drop j a) n ∙ drop-length a in
    let q : drop i b ≡ [] = ap (λ (j : ℕ). drop j b) (n ∙ h) ∙ drop-length b in
    s ∙ (λ j. same (p j) (q j)) ∙ nil_same

-- the place of a word in a table, the entries of which are numbered from i on
place_on : {P Q : Type 0} {R S : ℕ → Type 0} (r : Option ℕ) → MatchOption r P R → (P → Q) → ((k : ℕ) → R k → S k) → MatchOption r Q S
place_on None h f g = f h
place_on (Some k) h f g = g k h

place_told : (w : List ℕ) (i : ℕ) (ts : List (Bor (List ℕ)))
    → MatchOption (position_from (λ t. same t.now w) i ts) (position (map (λ t. t.now) ts) w ≡ length ts) (λ k. (k ≡ i + position (map (λ t. t.now) ts) w) × (k < i + length ts))
unfolding position
place_told w i [] = refl
place_told w i (t ∷ ts) = go (same t.now w) (place_told w (i + 1) ts)
  where
    go : (b : Bool)
        → MatchOption (position_from (λ t. same t.now w) (i + 1) ts) (position (map (λ t. t.now) ts) w ≡ length ts) (λ k. (k ≡ i + 1 + position (map (λ t. t.now) ts) w) × (k < i + 1 + length ts))
        → MatchOption (cond b (Some i) (position_from (λ t. same t.now w) (i + 1) ts))
        (choose b (λ _. 0) (λ _. suc (position (map (λ t. t.now) ts) w)) ≡ suc (length ts))
        (λ k. (k ≡ i + choose b (λ _. 0) (λ _. suc (position (map (λ t. t.now) ts) w))) × (k < i + suc (length ts)))
    go true h = (omega arith, omega arith)
    go false h = place_on (position_from (λ t. same t.now w) (i + 1) ts) h (λ e. ap suc e) (λ k g. (omega (arith, g.0), omega (arith, g.1)))

pub placed : (w : List ℕ) (ts : List (Bor (List ℕ))) (r : Option ℕ)
    → r ≡ cond (ltb (position_or_len (λ t. same t.now w) ts) (length ts)) (Some (position_or_len (λ t. same t.now w) ts)) None → Numbered (map (λ t. t.now) ts) w r
placed w ts r e =
    let n = length-map ts (λ (t : Bor (List ℕ)). t.now) in
    subst (Numbered (map (λ t. t.now) ts) w) (sym (e ∙ position_from-zero (λ t. same t.now w) ts))
    (place_on (position_from (λ t. same t.now w) 0 ts) (place_told w 0 ts) (λ p. p ∙ sym n) (λ k h. (omega (arith, h.0), omega (arith, h.1, n))))

pub some_fixed : (w : List ℕ) (r : Option ℕ) → MatchOption r (position fixed_words w ≡ 25) (λ k. (k ≡ position fixed_words w) × (k < 25)) → is_some r ≡ true → position fixed_words w < 25
some_fixed w None h e = absurd (clash (cc))
some_fixed w (Some k) h e = omega (arith, h.0, h.1)

pub none_fixed : (w : List ℕ) (r : Option ℕ) → MatchOption r (position fixed_words w ≡ 25) (λ k. (k ≡ position fixed_words w) × (k < 25)) → is_some r ≡ false → position fixed_words w ≡ 25
none_fixed w None h e = h
none_fixed w (Some k) h e = absurd (clash (cc))

pub none_numbered : (table : List (List ℕ)) (w : List ℕ) (r : Option ℕ) (b : Bool) → Numbered table w r → is_some r ≡ not b → b ≡ eqb (position table w) (length table)
none_numbered table w None true h e = sym (eq-eqb (position table w) (length table) h)
none_numbered table w None false h e = absurd (clash (cc))
none_numbered table w (Some k) true h e = absurd (clash (cc))
none_numbered table w (Some k) false h e = sym (ne_eqb (position table w) (length table) (λ z. omega (arith, h.0, h.1, z)))

-- the classes of name characters in another order
turned : (d u l x : Bool) → (((d || u) || l) || x) ≡ (u || (l || (d || x)))
turned true true l x = refl
turned true false true x = refl
turned true false false x = refl
turned false true l x = refl
turned false false true x = refl
turned false false false x = refl

pub alphanumeric : (b : ℕ) → (is_ascii_alphanumeric b || eqb b 95) ≡ name_char b
unfolding name_char
alphanumeric b = turned (leb 48 b && leb b 57) (leb 65 b && leb b 90) (leb 97 b && leb b 122) (eqb b 95)

-- a test of every entry
pub every_is : (f : ℕ → Bool) (l : List ℕ) → list_all f l ≡ every f l
unfolding every
every_is f [] = refl
every_is f (x ∷ l) = ap (λ (t : Bool). f x && t) (every_is f l)

-- a test of every entry, from an entry on
module _ (f : ℕ → Bool) (l : List ℕ) (i : ℕ) where
  pub every_on : every f l ≡ every f (drop i l) → i < length l → f (get_or l i 0) ≡ true → every f l ≡ every f (drop (i + 1) l)
  unfolding every
  every_on e h p = rw (add-one i) (e ∙ (ap (every f) (drop-cons l i 0 h) ∙ rw p))

  pub every_stop : every f l ≡ every f (drop i l) → i < length l → f (get_or l i 0) ≡ false → every f l ≡ false
  unfolding every
  every_stop e h p = e ∙ (ap (every f) (drop-cons l i 0 h) ∙ rw p)

  pub every_over : every f l ≡ every f (drop i l) → length l ≤ i → every f l ≡ true
  unfolding every
  every_over e h = e ∙ ap (every f) (drop_of_length-le l h)

-- a name passes all tests, and one that fails shows in the answer
module _ (w : List ℕ) where
  pub too_short : length w < 1 → is_name w ≡ false
  unfolding is_name
  too_short h = rw (lt-leb 1 (length w) h)

  pub too_long : 31 < length w → is_name w ≡ false
  unfolding is_name
  too_long h = rw (lt-leb (length w) 31 h, and-false)

  pub other_bytes : every name_char w ≡ false → is_name w ≡ false
  unfolding is_name
  other_bytes h = rw (h, and-false)

  pub fixed_word : position fixed_words w < 25 → is_name w ≡ false
  unfolding is_name
  fixed_word h = rw (ne_eqb (position fixed_words w) 25 (λ e. omega arith), and-false, and-false)

  pub name_by_runs : 1 ≤ length w → length w ≤ 31 → every name_char w ≡ true → position fixed_words w ≡ 25 → (b : Bool)
      → b ≡ eqb (position bare_runs w) 7 → b ≡ is_name w
  unfolding is_name
  name_by_runs h k c l b e = e ∙ rw (le-leb 1 (length w) h, le-leb (length w) 31 k, c, eq-eqb (position fixed_words w) 25 l) refl

  -- which word it is
  pub a_fixed_word : (k : ℕ) → k ≡ position fixed_words w → k < 25 → OfKind w (k + 1)
  unfolding token_of token_as
  a_fixed_word k e h =
      record {
        token = rw (sym e, lt-ltb k 25 h, add-one k, ne_eqb (suc k) 0 (λ z. omega arith)) (ap fixed (let z : k ≡ suc k - 1 = omega arith in z));
        of_a_kind = (omega arith);
        not_end = (λ z. omega arith);
      }

  pub a_name : position fixed_words w ≡ 25 → is_name w ≡ true → OfKind w 0
  unfolding token_of token_as
  a_name h e = record { token = rw (h, e) refl; of_a_kind = (omega arith); not_end = (λ z. omega arith) }

  pub no_word : position fixed_words w ≡ 25 → is_name w ≡ false → OfKind w 27
  unfolding token_of token_as
  no_word h e = record { token = rw (h, e) refl; of_a_kind = (omega arith); not_end = (λ z. omega arith) }
