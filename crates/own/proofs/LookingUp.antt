-- Laws of looking a name up: among the names ahead, and in a table and behind it.
-- Assumes nothing.
use Prim.Native.Nat.{ℕ, suc, ◌+◌, ◌-◌, ◌/◌, ◌<◌, ◌≤◌}
use native.Mathlib.Omega.{arith}
use mathlib.Core.Path.{◌≡◌, refl, sym, ◌∙◌, ap}
use mathlib.Core.Bool.{Bool, true, false, ◌&&◌, ◌||◌, not}
use mathlib.Core.List.{List, [], ◌∷◌, ◌++◌}
use lib.Dec.{ltb}
use lib.ListN.{length}
use borrow.Author.Tests.{ltb-true, ltb-false, lt-ltb, le-ltb}
use Rattle.model.specs.Words.{choose, every, some_in, listed}
use Rattle.model.proofs.Words.{clash}
use Rattle.model.proofs.Lists.{length_listed}
use Rattle.grammar.specs.Grammar.{Name}
use Rattle.grammar.specs.Words.{same, position}
use Rattle.lists.specs.Lent.{found_from}
use Rattle.std.specs.Prelude.{Option, Some, None, is_some}
use Rattle.lists.proofs.TableLaws.{found_head, found_tail, found_none, found_told}
use Rattle.naming.specs.NameLists.{none_twice}
use Rattle.naming.specs.Known.{among}
use Rattle.words.specs.Scanning.{stretch}
use Rattle.own.specs.Ahead.{names_from}
use Rattle.own.specs.Held.{Here, held, none_of, all_names, Filled}

-- the loop's invariant
pub record Going (text : List ℕ) (kind stop at : ℕ) (word : List ℕ) (first i from : ℕ) : Type 0 where
  pub told : found_from first (names_from text kind stop at) word ≡ found_from i (names_from text kind stop from) word
  pub fewer : i ≤ from

module _ (text : List ℕ) (kind stop at : ℕ) (word : List ℕ) (first i from : ℕ) (g : Going text kind stop at word first i from) where
  pub going_over : names_from text kind stop from ≡ [] → None ≡ found_from first (names_from text kind stop at) word
  going_over e = sym (g.told ∙ ap (λ (ns : List Name). found_from i ns word) e ∙ found_none i word)

  module _ (start end : ℕ) (h : Here text kind stop from start end) (t : Bool) (e : t ≡ same (stretch text start end) word) where
    pub going_found : t ≡ true → Some i ≡ found_from first (names_from text kind stop at) word
    going_found f =
        sym (g.told ∙ ap (λ (ns : List Name). found_from i ns word) h.names
        ∙ found_head i (stretch text start end) (names_from text kind stop end) word (sym e ∙ f))

    pub going_on : t ≡ false → Going text kind stop at word first (i + 1) end
    going_on f =
        record {
          told =
              g.told ∙ ap (λ (ns : List Name). found_from i ns word) h.names
              ∙ found_tail i (stretch text start end) (names_from text kind stop end) word (sym e ∙ f);
          fewer = (let a = g.fewer in let b = h.onward in omega arith);
        }

-- in the first list, or else in the second
pub found_first : (xs ys : List Name) (k : ℕ) (w : List ℕ) (i : ℕ) → found_from k xs w ≡ Some i → found_from k (xs ++ ys) w ≡ Some i
found_first [] ys k w i e = absurd (clash (cc (found_none k w)))
found_first (x ∷ xs) ys k w i e = go (same x w) refl (found_first xs ys (k + 1) w i)
  where
    go : (b : Bool) → same x w ≡ b → (found_from (k + 1) xs w ≡ Some i → found_from (k + 1) (xs ++ ys) w ≡ Some i) → found_from k (x ∷ xs ++ ys) w ≡ Some i
    go true h r = found_head k x (xs ++ ys) w h ∙ sym (found_head k x xs w h) ∙ e
    go false h r = found_tail k x (xs ++ ys) w h ∙ r (sym (found_tail k x xs w h) ∙ e)

pub found_second : (xs ys : List Name) (k n : ℕ) (w : List ℕ) → n ≡ k + length xs → found_from k xs w ≡ None → found_from k (xs ++ ys) w ≡ found_from n ys w
found_second [] ys k n w l e = ap (λ (m : ℕ). found_from m ys w) (let z : k ≡ n = omega arith in z)
found_second (x ∷ xs) ys k n w l e = go (same x w) refl (found_second xs ys (k + 1) n w (omega arith))
  where
    go : (b : Bool) → same x w ≡ b → (found_from (k + 1) xs w ≡ None → found_from (k + 1) (xs ++ ys) w ≡ found_from n ys w)
        → found_from k (x ∷ xs ++ ys) w ≡ found_from n ys w
    go true h r = absurd (clash (cc (found_head k x xs w h)))
    go false h r = found_tail k x (xs ++ ys) w h ∙ r (sym (found_tail k x xs w h) ∙ e)

-- in a table, or else behind it
module _ (text table : List ℕ) (count kind stop rest : ℕ) (w : List ℕ) where
  pub number_held : (r : Option ℕ) → r ≡ found_from 0 (listed 0 count (held text table)) w → (i : ℕ) → r ≡ Some i
      → Some i ≡ found_from 0 (all_names text table count kind stop rest) w
  unfolding all_names
  number_held r e i f = sym (found_first (listed 0 count (held text table)) (names_from text kind stop rest) 0 w i (sym e ∙ f))

  pub number_behind : (r : Option ℕ) → r ≡ found_from 0 (listed 0 count (held text table)) w → r ≡ None → (s : Option ℕ) → s ≡ found_from count (names_from text kind stop rest) w
      → s ≡ found_from 0 (all_names text table count kind stop rest) w
  unfolding all_names
  number_behind r e f s g =
      g ∙ sym (found_second (listed 0 count (held text table)) (names_from text kind stop rest) 0 count w (let z = length_listed 0 count (held text table) in omega arith) (sym e ∙ f))

-- none of the names ahead is one of these
module _ (ns : List Name) (text : List ℕ) (kind stop from : ℕ) where
  pub none_over : names_from text kind stop from ≡ [] → every (none_of ns) (names_from text kind stop from) ≡ true
  unfolding every
  none_over e = rw e

  module _ (start end : ℕ) (h : Here text kind stop from start end) (r : Option ℕ) (e : r ≡ found_from 0 ns (stretch text start end)) where
    pub none_broken : is_some r ≡ true → every (none_of ns) (names_from text kind stop from) ≡ false
    unfolding every none_of among
    none_broken f = rw (h.names, sym (found_told 0 ns (stretch text start end)) ∙ ap is_some (sym e) ∙ f)

    pub none_on : is_some r ≡ false → every (none_of ns) (names_from text kind stop from) ≡ every (none_of ns) (names_from text kind stop end)
    unfolding every none_of among
    none_on f = rw (h.names, sym (found_told 0 ns (stretch text start end)) ∙ ap is_some (sym e) ∙ f)

-- one of a name and others
among_more : (x : Name) (xs : List Name) (n : Name) → among (x ∷ xs) n ≡ (same x n || among xs n)
unfolding among position
among_more x xs n = go (same x n) (ltb (position xs n) (length xs)) refl
  where
    go : (b t : Bool) → ltb (position xs n) (length xs) ≡ t → ltb (choose b (λ _. 0) (λ _. suc (position xs n))) (suc (length xs)) ≡ (b || ltb (position xs n) (length xs))
    go true t e = lt-ltb 0 (suc (length xs)) (omega arith)
    go false true e =
        let l = ltb-true (position xs n) (length xs) e in
        lt-ltb (suc (position xs n)) (suc (length xs)) (omega arith) ∙ sym e
    go false false e =
        let l = ltb-false (position xs n) (length xs) e in
        le-ltb (suc (position xs n)) (suc (length xs)) (omega arith) ∙ sym e

none_of_none : (ys : List Name) → every (none_of []) ys ≡ true
unfolding every none_of among position
none_of_none [] = refl
none_of_none (y ∷ ys) = none_of_none ys

swapped : (a m s e : Bool) → (not (a || m) && (not s && e)) ≡ (not (a || s) && (not m && e))
swapped true m s e = refl
swapped false true true e = refl
swapped false true false e = refl
swapped false false true e = refl
swapped false false false e = refl

none_of_more : (x : Name) (xs ys : List Name) → every (none_of (x ∷ xs)) ys ≡ (not (some_in (same x) ys) && every (none_of xs) ys)
unfolding every some_in none_of
none_of_more x xs [] = refl
none_of_more x xs (y ∷ ys) = rw (among_more x xs y, none_of_more x xs ys) (swapped (same x y) (among xs y) (some_in (same x) ys) (every (none_of xs) ys))

some_append : (p : Name → Bool) (xs ys : List Name) → some_in p (xs ++ ys) ≡ (some_in p xs || some_in p ys)
unfolding some_in
some_append p [] ys = refl
some_append p (x ∷ xs) ys = go (p x) (some_append p xs ys)
  where
    go : (b : Bool) → some_in p (xs ++ ys) ≡ (some_in p xs || some_in p ys) → (b || some_in p (xs ++ ys)) ≡ (b || some_in p xs || some_in p ys)
    go true h = refl
    go false h = h

regrouped : (a b n e y : Bool) → (not (a || b) && (n && (e && y))) ≡ ((not a && n) && ((not b && e) && y))
regrouped true b n e y = refl
regrouped false true true e y = refl
regrouped false true false e y = refl
regrouped false false n e y = refl

-- no name stands twice in two lists: in neither, and none of the second is in the first
pub twice_parts : (xs ys : List Name) → none_twice (xs ++ ys) ≡ (none_twice xs && (every (none_of xs) ys && none_twice ys))
unfolding none_twice
twice_parts [] ys = rw (none_of_none ys)
twice_parts (x ∷ xs) ys =
    rw (some_append (same x) xs ys, twice_parts xs ys, none_of_more x xs ys)
    (regrouped (some_in (same x) xs) (some_in (same x) ys) (none_twice xs) (every (none_of xs) ys) (none_twice ys))

-- the names of a table and those behind it
module _ (text table : List ℕ) (kind stop from count rest : ℕ) (f : Filled text table kind stop from count rest) where
  abbrev first : List Name
  first = listed 0 count (held text table)

  in_parts : none_twice (names_from text kind stop from) ≡ (none_twice first && (every (none_of first) (names_from text kind stop rest) && none_twice (names_from text kind stop rest)))
  unfolding all_names
  in_parts = ap none_twice (sym f.filling.names) ∙ twice_parts first (names_from text kind stop rest)

  module _ (r : Bool) (e : r ≡ none_twice first) where
    pub differ_broken : r ≡ false → none_twice (names_from text kind stop from) ≡ false
    differ_broken h = in_parts ∙ rw (sym e ∙ h)

    pub differ_last : r ≡ true → count < 8192 → length table ≡ 16384 → none_twice (names_from text kind stop from) ≡ true
    unfolding none_twice every
    differ_last h l n =
        let k : count < length table / 2 = omega arith in
        in_parts ∙ rw (sym e ∙ h, f.complete k)

    module _ (h : r ≡ true) (s : Bool) (g : s ≡ every (none_of first) (names_from text kind stop rest)) where
      pub differ_met : s ≡ false → none_twice (names_from text kind stop from) ≡ false
      differ_met k = in_parts ∙ rw (sym e ∙ h, sym g ∙ k)

      pub differ_on : s ≡ true → none_twice (names_from text kind stop from) ≡ none_twice (names_from text kind stop rest)
      differ_on k = in_parts ∙ rw (sym e ∙ h, sym g ∙ k)

  pub differ_less : 8192 ≤ count → length text - rest < length text - from
  differ_less l =
      let a = f.filling.onward in
      let b = f.filling.inside (let z : 0 < count = omega arith in z) in
      omega arith
