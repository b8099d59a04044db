-- Laws about what is compared with the sheet: the name sets of the lent classes, from the front, the own name and the table, and a command.
-- Assumes nothing.
use Prim.Native.Nat.{ℕ, ◌+◌, ◌/◌, ◌*◌, ◌<◌, ◌≤◌}
use native.Mathlib.Omega.{arith}
use mathlib.Core.Path.{◌≡◌, sym, ◌∙◌}
use mathlib.Core.Bool.{Bool, true, false, ◌&&◌}
use mathlib.Core.List.{List}
use lib.Dec.{eqb}
use lib.ListN.{length, get_or, drop}
use borrow.Author.Tests.{eq-eqb, ne_eqb, lt-ltb, le-ltb}
use Rattle.model.specs.Words.{listed}
use Rattle.model.proofs.Lists.{length_listed, get_or_listed}
use Rattle.records.specs.Bytes.{u32, in_fours}
use Rattle.bodies.specs.Clauses.{name_set, action_command}
use Rattle.grammar.specs.Words.{same}
use Rattle.kinds.proofs.Laws.{same_apart, same_on, same_broken, same_over}
use Rattle.naming.specs.NameLists.{record_right, list_right}
use Rattle.lists.specs.Lent.{sets_in, Count}
use Rattle.missing.specs.Tallies.{command_named, own_fits, sets_alike}

-- the name sets of a body of child classes
abbrev pub sets_of : List ℕ → List ℕ
sets_of sets = listed 0 (in_fours sets) (name_set sets)

-- how many there are of either
lent_count : (classes : List ℕ) (n : ℕ) → Count classes 36 n → length (sets_in classes) ≡ n
unfolding sets_in
lent_count classes n k = length_listed 0 (length classes / 36) (λ i. u32 classes (i * 36 + 32)) ∙ sym k.is

body_count : (sets : List ℕ) → length (sets_of sets) ≡ in_fours sets
body_count sets = length_listed 0 (in_fours sets) (name_set sets)

-- the first i of n are alike, and the others decide
pub record Alike (classes sets : List ℕ) (n i : ℕ) : Type 0 where
  pub count : Count classes 36 n
  pub many : n ≡ in_fours sets
  pub inside : i ≤ n
  pub decides : same (sets_in classes) (sets_of sets) ≡ same (drop i (sets_in classes)) (drop i (sets_of sets))

module _ (classes sets : List ℕ) (n : ℕ) where
  -- there are more of one than of the other
  pub sets_more : Count classes 36 n → (n ≡ in_fours sets → ⊥) → false ≡ sets_alike classes sets
  unfolding sets_alike
  sets_more k h = sym (same_apart (sets_in classes) (sets_of sets) (λ e. h (sym (lent_count classes n k) ∙ e ∙ body_count sets)))

  module _ (i : ℕ) (a : Alike classes sets n i) where
    -- after the last
    pub sets_over : n ≤ i → true ≡ sets_alike classes sets
    unfolding sets_alike
    sets_over l =
        let x = lent_count classes n a.count in
        let y = body_count sets in
        let z = a.many in
        let w = a.inside in
        sym (same_over (sets_in classes) (sets_of sets) i a.decides (omega arith) (omega arith) (omega arith))

    module _ (l : i < n) (x y : ℕ) (e : x ≡ get_or (sets_in classes) i 0) (f : y ≡ name_set sets i) where
      -- set i, as it was read of both
      there : y ≡ get_or (sets_of sets) i 0
      there = let z = a.many in f ∙ sym (get_or_listed 0 (in_fours sets) (name_set sets) 0 i i (omega arith) (omega arith))

      -- it is the same, or it is not
      pub sets_on : x ≡ y → Alike classes sets n (i + 1)
      sets_on h =
          let u = lent_count classes n a.count in
          let v = body_count sets in
          let z = a.many in
          record {
            count = a.count;
            many = a.many;
            inside = omega arith;
            decides = same_on (sets_in classes) (sets_of sets) i a.decides (omega arith) (omega arith) (sym e ∙ h ∙ there);
          }

      pub sets_differ : (x ≡ y → ⊥) → false ≡ sets_alike classes sets
      unfolding sets_alike
      sets_differ h =
          let u = lent_count classes n a.count in
          let v = body_count sets in
          let z = a.many in
          sym (same_broken (sets_in classes) (sets_of sets) i a.decides (omega arith) (omega arith) (λ g. h (e ∙ g ∙ sym there)))

-- the own name and the table
module _ (name table : List ℕ) (S : ℕ) where
  -- the name is too long or too short, or the tests decide
  pub name_long : (length name ≡ 32 → ⊥) → false ≡ own_fits name table S
  unfolding own_fits
  name_long h = rw (ne_eqb (length name) 32 h)

  pub own_told : length name ≡ 32 → (x y : Bool) → x ≡ record_right name → y ≡ list_right 32 table → (x && (y && eqb (length table) (32 * S))) ≡ own_fits name table S
  unfolding own_fits
  own_told h x y e f = rw (e, f, eq-eqb (length name) 32 h)

-- the command of an action clause, as it was read
module _ (m : ℕ) (actions : List ℕ) (a x : ℕ) (e : x ≡ action_command actions a) where
  -- it has no name, or it has one
  pub command_missing : m ≤ x → command_named m actions a ≡ false
  unfolding command_named
  command_missing l = le-ltb (action_command actions a) m (omega arith)

  pub command_there : x < m → command_named m actions a ≡ true
  unfolding command_named
  command_there l = lt-ltb (action_command actions a) m (omega arith)
