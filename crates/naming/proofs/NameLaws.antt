-- Laws about names and lists of names: when two are the same, where one stands, and its record.
-- Assumes nothing.
use Prim.Native.Nat.{ℕ, zero, suc, ◌+◌, ◌-◌, ◌^◌, ◌/◌, ◌%◌, ◌<◌}
use native.Mathlib.Omega.{arith}
use native.Mathlib.Nat.{pow-suc}
use mathlib.Core.Path.{◌≡◌, refl, sym, ◌∙◌, ap}
use mathlib.Core.Bool.{Bool, true, false, ◌&&◌}
use mathlib.Core.List.{List, [], ◌∷◌, ◌++◌}
use lib.Dec.{eqb, leb, eqb-suc-zero}
use lib.ListN.{length, get_or}
use borrow.Author.Tests.{eqb-false, eq-eqb, ltb-true}
use Rattle.model.specs.Words.{choose, every, listed, has}
use Rattle.model.proofs.Words.{clash, and_left, and_right, and_both}
use Rattle.model.proofs.Bits.{has_half}
use Rattle.model.proofs.Masks.{has_zero}
use Rattle.grammar.specs.Words.{name_char, is_name, fixed_words, bare_runs, same, position}
use Rattle.grammar.proofs.Words.{same_equal}
use Rattle.naming.specs.NameLists.{padded, characters, number_in, listed_in}

-- one is the same as itself
pub same_self : (a : List ℕ) → same a a ≡ true
unfolding same
same_self [] = refl
same_self (x ∷ xs) = and_both (eqb x x) (same xs xs) (eq-eqb x x refl) (same_self xs)

-- what stands at the place of an entry is that entry
pub position_holds : (ts : List (List ℕ)) (w : List ℕ) → position ts w < length ts → get_or ts (position ts w) [] ≡ w
unfolding position
position_holds [] w l = absurd (omega arith)
position_holds (t ∷ ts) w l = go (same t w) refl (position_holds ts w) l
  where
    go : (b : Bool) → same t w ≡ b → (position ts w < length ts → get_or ts (position ts w) [] ≡ w)
        → choose b (λ _. 0) (λ _. suc (position ts w)) < suc (length ts) → get_or (t ∷ ts) (choose b (λ _. 0) (λ _. suc (position ts w))) [] ≡ w
    go true e r l = same_equal t w e
    go false e r l = r (let m : suc (position ts w) < suc (length ts) = l in omega arith)

-- zero is no name character
some_character : (b : ℕ) → name_char b ≡ true → eqb b 0 ≡ false
unfolding name_char
some_character zero h = absurd (clash (cc))
some_character (suc b) h = eqb-suc-zero b

-- so a name's record tells the name
pub before_zeros : (n : List ℕ) (k i : ℕ) → every name_char n ≡ true → characters (n ++ listed i k (λ _. 0)) ≡ n
unfolding characters every listed
before_zeros [] zero i h = refl
before_zeros [] (suc k) i h = refl
before_zeros (b ∷ bs) k i h =
    rw (some_character b (and_left (name_char b) (every name_char bs) h)) (ap (◌∷◌ b) (before_zeros bs k i (and_right (name_char b) (every name_char bs) h)))

-- a name is made of name characters
pub made_of : (n : List ℕ) → is_name n ≡ true → every name_char n ≡ true
unfolding is_name
made_of n h =
    let rest : Bool = eqb (position fixed_words n) 25 && eqb (position bare_runs n) 7 in
    and_left (every name_char n) rest (and_right (leb 1 (length n) && leb (length n) 31) (every name_char n && rest) h)

pub characters_padded : (n : List ℕ) → is_name n ≡ true → characters (padded n) ≡ n
unfolding padded
characters_padded n h = before_zeros n (32 - length n) 0 (made_of n h)

pub same_record : (a b : List ℕ) → is_name a ≡ true → is_name b ≡ true → padded a ≡ padded b → a ≡ b
same_record a b h k e = sym (characters_padded a h) ∙ (ap characters e ∙ characters_padded b k)

-- so two names of one list that have one number are one name
pub same_number : (records : List (List ℕ)) (a b : List ℕ) → is_name a ≡ true → is_name b ≡ true → listed_in records a ≡ true → listed_in records b ≡ true
    → number_in records a ≡ number_in records b → a ≡ b
unfolding listed_in number_in
same_number records a b h k p q e =
    same_record a b h k
    (sym (position_holds records (padded a) (ltb-true (position records (padded a)) (length records) p))
    ∙ (ap (λ (i : ℕ). get_or records i []) e ∙ position_holds records (padded b) (ltb-true (position records (padded b)) (length records) q)))

-- a bit that a set below 2 to the k lacks can be added, and it stays below
pub bit_added : (k s i : ℕ) → s < 2 ^ k → i < k → has s i ≡ false → s + 2 ^ i < 2 ^ k
bit_added zero s i l m h = absurd (omega arith)
bit_added (suc k) s zero l m h =
    let e : eqb (s % 2) 1 ≡ false = sym (has_zero s) ∙ h in
    let d = eqb-false (s % 2) 1 e in
    omega (arith, pow-suc 2 k, d)
bit_added (suc k) s (suc i) l m h =
    let e = bit_added k (s / 2) i (omega (arith, pow-suc 2 k)) (omega arith) (sym (has_half s i) ∙ h) in
    omega (arith, pow-suc 2 k, pow-suc 2 i)
