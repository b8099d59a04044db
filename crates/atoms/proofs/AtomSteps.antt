-- One law for each answer and each turn of the functions that read an atom.
-- Assumes nothing.
use Prim.Native.Nat.{ℕ, zero, suc, ◌+◌, ◌*◌, ◌/◌, ◌%◌, ◌^◌, ◌<◌, ◌≤◌}
use native.Mathlib.Omega.{arith}
use native.Mathlib.Nat.{mod-eq_of_lt}
use mathlib.Core.Path.{◌≡◌, refl, sym, ◌∙◌, ap}
use mathlib.Core.Bool.{Bool, true, false, ◌&&◌, ◌||◌, and-false, or-true, or-false}
use mathlib.Core.Logic.{◌⊎◌, inl, inr}
use mathlib.Core.List.{List, [], ◌∷◌}
use lib.Dec.{eqb, ltb}
use lib.ListN.{length, take, drop}
use lib.Bits.{bit_and, bit_or, or_disjoint, or_lt, and_le_l}
use lib.Pow.{pow-lt}
use borrow.Author.Tests.{eqb-true, eqb-false, ltb-false, ne_eqb, lt-ltb, le-ltb}
use Rattle.model.specs.Words.{choose, has}
use Rattle.model.proofs.Words.{clash, or_either}
use Rattle.model.proofs.Bits.{has_none}
use Rattle.model.proofs.Masks.{has_and, has_or, has_pow, same_bits}
use Rattle.model.proofs.Lists.{length_listed}
use Rattle.grammar.specs.Words.{same, position, tokens}
use Rattle.grammar.specs.Kinds.{kind_of, token_as}
use Rattle.naming.specs.NameLists.{padded, records_in, number_in}
use Rattle.naming.specs.Naming.{with_bit}
use Rattle.words.specs.Scanning.{tokens_from, stretch, behind, Next}
use Rattle.words.proofs.Turns.{turn, last, kind_as, a_name, a_fixed}
use Rattle.lists.specs.Lent.{found_from}
use Rattle.std.specs.Prelude.{Some, None}
use Rattle.ordering.specs.Ordering.{Ahead, pattern_in, with_name, braced, set_ahead, side_ahead, atom_ahead}

-- the number of a name
position_most : (rs : List (List ℕ)) (w : List ℕ) → position rs w ≤ length rs
unfolding position
position_most [] w = omega arith
position_most (r ∷ rs) w = go (same r w) (position_most rs w)
  where
    go : (b : Bool) → position rs w ≤ length rs → choose b (λ _. 0) (λ _. suc (position rs w)) ≤ suc (length rs)
    go true h = omega arith
    go false h = omega arith

count_records : (size : ℕ) (b : List ℕ) → length (records_in size b) ≡ length b / size
unfolding records_in
count_records size b = length_listed 0 (length b / size) (λ i. take 32 (drop (i * size) b))

pub found_at : (rs : List (List ℕ)) (w : List ℕ) (i : ℕ) → found_from 0 rs (padded w) ≡ Some i → i ≡ number_in rs w
unfolding found_from number_in
found_at rs w i = go (ltb (position rs (padded w)) (length rs))
  where
    go : (b : Bool) → choose b (λ _. Some (0 + position rs (padded w))) (λ _. None) ≡ Some i → i ≡ position rs (padded w)
    go true e = let z : 0 + position rs (padded w) ≡ i = cc in omega arith
    go false e = absurd (clash (cc))

pub found_nowhere : (size : ℕ) (b w : List ℕ) (n : ℕ) → found_from 0 (records_in size b) (padded w) ≡ None → n ≡ length b / size → n ≡ number_in (records_in size b) w
unfolding found_from number_in
found_nowhere size b w n e h = go (ltb (position rs (padded w)) (length rs)) refl e
  where
    rs : List (List ℕ)
    rs = records_in size b

    go : (t : Bool) → ltb (position rs (padded w)) (length rs) ≡ t → choose t (λ _. Some (0 + position rs (padded w))) (λ _. None) ≡ None → n ≡ position rs (padded w)
    go true f e = absurd (clash (cc))
    go false f e = omega (arith, position_most rs (padded w), ltb-false (position rs (padded w)) (length rs) f, count_records size b)

-- the pattern of a kin
pub pattern_everyone : (cs : List (List ℕ)) (k : ℕ) (w : List ℕ) → (k ≡ 0 → ⊥) → 255 ≡ pattern_in cs (token_as k w)
unfolding pattern_in token_as
pattern_everyone cs k w h = rw (ne_eqb k 0 h)

module _ (cs : List (List ℕ)) (k : ℕ) (w : List ℕ) (i : ℕ) (h : k ≡ 0) (e : i ≡ number_in cs w) where
  pub pattern_past : 255 ≤ i → 255 ≡ pattern_in cs (token_as k w)
  unfolding pattern_in
  pattern_past l = rw (a_name k w h, ← e, le-ltb i 255 l)

  pub pattern_class : i < 255 → i ≡ pattern_in cs (token_as k w)
  unfolding pattern_in
  pattern_class l = rw (a_name k w h, ← e, lt-ltb i 255 l)

-- a name's bit, which is there or is added
bit_there : (s n j : ℕ) → has s n ≡ true → (has s j || eqb n j) ≡ has s j
bit_there s n j e = go (eqb n j) refl
  where
    go : (b : Bool) → eqb n j ≡ b → (has s j || b) ≡ has s j
    go true q = let z : n ≡ j = eqb-true n j q in rw or-true (sym (rw z at e))
    go false q = or-false (has s j)

bit_gone : (s n j : ℕ) → has s n ≡ false → (has s j && eqb n j) ≡ false
bit_gone s n j e = go (eqb n j) refl
  where
    go : (b : Bool) → eqb n j ≡ b → (has s j && b) ≡ false
    go true q = let z : n ≡ j = eqb-true n j q in rw (← z, e)
    go false q = and-false (has s j)

bit_once : (s n : ℕ) → s < 2 ^ 32 → n < 32 → bit_or s (2 ^ n) ≡ with_bit (has s n) s n
bit_once s n l m = go (has s n) refl
  where
    go : (b : Bool) → has s n ≡ b → bit_or s (2 ^ n) ≡ with_bit b s n
    go true e = same_bits 32 (bit_or s (2 ^ n)) s (or_lt 32 s (2 ^ n) l (pow-lt m)) l (λ j z. has_or s (2 ^ n) j ∙ ap (λ (x : Bool). has s j || x) (has_pow n j) ∙ bit_there s n j e)
    go false e =
        or_disjoint s (2 ^ n)
        (same_bits 32 (bit_and s (2 ^ n)) 0 (omega (arith, and_le_l s (2 ^ n))) (omega arith)
        (λ j z. has_and s (2 ^ n) j ∙ ap (λ (x : Bool). has s j && x) (has_pow n j) ∙ bit_gone s n j e ∙ sym (has_none j)))

module _ (ns : List (List ℕ)) (s : ℕ) (w : List ℕ) (i : ℕ) (e : i ≡ number_in ns w) where
  pub name_past : 32 ≤ i → s ≡ with_name ns s w
  unfolding with_name
  name_past l = rw (← e, le-ltb i 32 l)

  pub name_marked : s < 2 ^ 32 → i < 32 → bit_or s (1 * 2 ^ i % 2 ^ 32) ≡ with_name ns s w
  unfolding with_name
  name_marked l m =
      let z : 1 * 2 ^ i % 2 ^ 32 ≡ 2 ^ i = ap (λ (x : ℕ). x % 2 ^ 32) (let y : 1 * 2 ^ i ≡ 2 ^ i = omega arith in y) ∙ mod-eq_of_lt (pow-lt m) in
      ap (bit_or s) z ∙ bit_once s i l m ∙ rw (← e, lt-ltb i 32 m)

or_neither : (a b : Bool) → (a || b) ≡ false → (a ≡ false) × (b ≡ false)
or_neither true b e = absurd (clash (cc))
or_neither false b e = (refl, e)

-- a word that is not the end goes on inside the text
pub record Goes (text : List ℕ) (at start end : ℕ) : Type 0 where
  pub on : at < end
  pub whole : start ≤ end
  pub inside : end ≤ length text

pub goes : (text : List ℕ) (at kind start end : ℕ) → Next text at kind start end → (kind ≡ 26 → ⊥) → Goes text at start end
goes text at kind start end n z =
    let a = n.onward in
    let b = n.moves z in
    record { on = omega arith; whole = omega arith; inside = n.inside z }

-- the names in braces: the end of the words and the brace that closes, a name, and any other word
module _ (ns : List (List ℕ)) (text : List ℕ) (at kind start end : ℕ) (n : Next text at kind start end) (s : ℕ) where
  pub braced_end : (eqb kind 24 || eqb kind 26) ≡ true → s ≡ braced ns (tokens_from text at) s
  unfolding braced
  braced_end h = go (or_either (eqb kind 24) (eqb kind 26) h)
    where
      go : (eqb kind 24 ≡ true) ⊎ (eqb kind 26 ≡ true) → s ≡ braced ns (tokens_from text at) s
      go (inl e) =
          let z : kind ≡ 24 = eqb-true kind 24 e in
          rw (turn text at kind start end n (λ f. omega arith), a_fixed kind 23 (stretch text start end) z)
      go (inr e) = rw (last text at kind start end n (eqb-true kind 26 e))

  pub braced_goes : (eqb kind 24 || eqb kind 26) ≡ false → Goes text at start end
  braced_goes h = goes text at kind start end n (eqb-false kind 26 (or_neither (eqb kind 24) (eqb kind 26) h).1)

  pub braced_name : (r : ℕ) → (eqb kind 24 || eqb kind 26) ≡ false → kind ≡ 0 → r ≡ with_name ns s (stretch text start end)
      → braced ns (tokens_from text at) s ≡ braced ns (tokens_from text end) r
  unfolding braced
  braced_name r h z e = rw (turn text at kind start end n (λ f. omega arith), a_name kind (stretch text start end) z) (ap (braced ns (tokens_from text end)) (sym e))

  pub braced_other : (eqb kind 24 || eqb kind 26) ≡ false → (kind ≡ 0 → ⊥) → braced ns (tokens_from text at) s ≡ braced ns (tokens_from text end) s
  unfolding braced
  braced_other h z = go kind refl
    where
      go : (k : ℕ) → kind ≡ k → braced ns (tokens_from text at) s ≡ braced ns (tokens_from text end) s
      go zero e = absurd (z e)
      go (suc j) e =
          let (a, b) = or_neither (eqb kind 24) (eqb kind 26) h in
          let m : eqb (suc j) 24 ≡ false = rw e at a in
          rw (turn text at kind start end n (eqb-false kind 26 b), a_fixed kind j (stretch text start end) e, m)

-- the word at a place, and what stands behind it
first_token : (text : List ℕ) (at kind start end : ℕ) → Next text at kind start end
    → tokens_from text at ≡ token_as kind (stretch text start end) ∷ tokens (behind text kind end)
unfolding tokens_from tokens
first_token text at kind start end n = ap tokens n.words

-- a set: a name, braces, or none
module _ (ns : List (List ℕ)) (text : List ℕ) (at kind start end : ℕ) (n : Next text at kind start end) where
  pub set_name : kind ≡ 0 → with_name ns 0 (stretch text start end) ≡ set_ahead ns (tokens_from text at)
  unfolding set_ahead
  set_name z = rw (turn text at kind start end n (λ f. omega arith), a_name kind (stretch text start end) z)

  pub set_braces : kind ≡ 23 → braced ns (tokens_from text end) 0 ≡ set_ahead ns (tokens_from text at)
  unfolding set_ahead
  set_braces z = rw (turn text at kind start end n (λ f. omega arith), a_fixed kind 22 (stretch text start end) z)

  pub set_none : (kind ≡ 0 → ⊥) → (kind ≡ 23 → ⊥) → 0 ≡ set_ahead ns (tokens_from text at)
  unfolding set_ahead
  set_none z b = go kind refl
    where
      go : (k : ℕ) → kind ≡ k → 0 ≡ set_ahead ns (tokens_from text at)
      go zero e = absurd (z e)
      go (suc j) e = rw (first_token text at kind start end n, a_fixed kind j (stretch text start end) e, ne_eqb (suc j) 23 (λ q. b (e ∙ q)))

  -- behind a kin: in_state, not_in_state, or no atom
  module _ (k p : ℕ) where
    pub side_in : (s : ℕ) → kind ≡ 18 → s ≡ set_ahead ns (tokens_from text end) → Some (k, p, s) ≡ side_ahead ns k p (tokens_from text at)
    unfolding side_ahead kind_of
    side_in s z e = rw (turn text at kind start end n (λ f. omega arith), a_fixed kind 17 (stretch text start end) z, e)

    pub side_out : (s : ℕ) → kind ≡ 19 → s ≡ set_ahead ns (tokens_from text end) → Some (k + 1, p, s) ≡ side_ahead ns k p (tokens_from text at)
    unfolding side_ahead kind_of
    side_out s z e = rw (turn text at kind start end n (λ f. omega arith), a_fixed kind 18 (stretch text start end) z, e)

    pub side_none : (kind ≡ 18 → ⊥) → (kind ≡ 19 → ⊥) → None ≡ side_ahead ns k p (tokens_from text at)
    unfolding side_ahead
    side_none a b = rw (first_token text at kind start end n, kind_as kind (stretch text start end), ne_eqb kind 18 a, ne_eqb kind 19 b)

  -- behind a quantifier: the end, or a kin
  module _ (cs : List (List ℕ)) (k : ℕ) where
    pub atom_end : kind ≡ 26 → None ≡ atom_ahead ns cs k (tokens_from text at)
    unfolding atom_ahead side_ahead
    atom_end z = rw (last text at kind start end n z)

    pub atom_kin : (p : ℕ) (r : Ahead) → (kind ≡ 26 → ⊥) → p ≡ pattern_in cs (token_as kind (stretch text start end)) → r ≡ side_ahead ns k p (tokens_from text end)
        → r ≡ atom_ahead ns cs k (tokens_from text at)
    unfolding atom_ahead
    atom_kin p r z e f = rw (turn text at kind start end n z, ← e) f
