-- Laws of tables of places: how one is filled, and how names are looked up in it and behind it.
-- Assumes nothing.
use Prim.Native.Nat.{ℕ, ◌+◌, ◌-◌, ◌*◌, ◌<◌, ◌≤◌}
use native.Mathlib.Omega.{arith}
use native.Mathlib.Numerals.{add-one}
use mathlib.Core.Path.{◌≡◌, refl, sym, ◌∙◌, ap}
use mathlib.Core.List.{List, [], ◌∷◌, ◌++◌}
use mathlib.Core.Logic.{◌⊎◌, inl, inr}
use lib.ListN.{length, get_or, set, length-set}
use lib.Seq.{get_or-set_same, get_or-set_other}
use Rattle.model.specs.Words.{listed}
use Rattle.model.proofs.Words.{lt_or_le}
use Rattle.model.proofs.Lists.{listed_more, listed_same}
use Rattle.grammar.specs.Grammar.{Name}
use Rattle.words.specs.Scanning.{stretch}
use Rattle.own.specs.Ahead.{names_from}
use Rattle.std.specs.Prelude.{Option, Some, None}
use Rattle.own.specs.Held.{Here, NextNamed, held, all_names, Places, Holds, Filling, Filled}

-- what an answer tells
module _ (text : List ℕ) (kind stop at : ℕ) (r : Option (ℕ × ℕ)) (n : NextNamed text kind stop at r) where
  pub named_here : (start end : ℕ) → r ≡ Some (start, end) → Here text kind stop at start end
  named_here start end e = rw e at n

  pub named_nowhere : r ≡ None → names_from text kind stop at ≡ []
  named_nowhere e = rw e at n

-- behind a name less is left
pub name_less : (text : List ℕ) (kind stop at start end : ℕ) → Here text kind stop at start end → length text - end < length text - at
name_less text kind stop at start end h = let a = h.onward in let b = h.inside in omega arith

snoc : (xs : List Name) (x : Name) (ys : List Name) → (xs ++ (x ∷ [])) ++ ys ≡ xs ++ (x ∷ ys)
snoc [] x ys = refl
snoc (z ∷ xs) x ys = ap (◌∷◌ z) (snoc xs x ys)

-- an empty table
pub filling_none : (text table : List ℕ) (kind stop at : ℕ) → Filling text table kind stop at 0 at
unfolding all_names listed
filling_none text table kind stop at =
    record {
      places = record { fits = omega arith; whole = λ i l. absurd (omega arith); inside = λ i l. absurd (omega arith) };
      names = refl;
      onward = omega arith;
      inside = λ l. absurd (omega arith);
    }

-- one name more
abbrev pub grown : List ℕ → ℕ → ℕ → ℕ → List ℕ
grown table n start end = set (set table (2 * n) start) (2 * n + 1) end

module _ (table : List ℕ) (n start end : ℕ) (room : 2 * n + 1 < length table) where
  abbrev after : List ℕ
  after = grown table n start end

  grown_start : get_or after (2 * n) 0 ≡ start
  grown_start =
      get_or-set_other (set table (2 * n) start) (2 * n + 1) (2 * n) end 0 (λ e. omega arith) ∙ get_or-set_same table (2 * n) start 0 (omega arith)

  grown_end : get_or after (2 * n + 1) 0 ≡ end
  grown_end = get_or-set_same (set table (2 * n) start) (2 * n + 1) end 0 (simp length-set (omega arith))

  grown_other : (j : ℕ) → j < 2 * n → get_or after j 0 ≡ get_or table j 0
  grown_other j l =
      get_or-set_other (set table (2 * n) start) (2 * n + 1) j end 0 (λ e. omega arith) ∙ get_or-set_other table (2 * n) j start 0 (λ e. omega arith)

  held_other : (text : List ℕ) (i : ℕ) → i < n → held text after i ≡ held text table i
  held_other text i l = rw (grown_other (2 * i) (omega arith), grown_other (2 * i + 1) (omega arith))

  held_last : (text : List ℕ) → held text after n ≡ stretch text start end
  held_last text = rw (grown_start, grown_end)

  -- what holds of the places before and of the new one holds of all
  places_more : (text : List ℕ) → Places text table n → start ≤ end → end ≤ length text → Places text after (n + 1)
  places_more text p w b =
      record {
        fits = simp length-set (omega arith);
        whole = λ i l. whole i l (lt_or_le i n);
        inside = λ i l. within i l (lt_or_le i n);
      }
    where
      whole : (i : ℕ) → i < n + 1 → (i < n) ⊎ (n ≤ i) → get_or after (2 * i) 0 ≤ get_or after (2 * i + 1) 0
      whole i l (inl h) = rw (grown_other (2 * i) (omega arith), grown_other (2 * i + 1) (omega arith)) (p.whole i h)
      whole i l (inr h) = let e : i ≡ n = omega arith in rw (e, grown_start, grown_end) w

      within : (i : ℕ) → i < n + 1 → (i < n) ⊎ (n ≤ i) → get_or after (2 * i + 1) 0 ≤ length text
      within i l (inl h) = rw (grown_other (2 * i + 1) (omega arith)) (p.inside i h)
      within i l (inr h) = let e : i ≡ n = omega arith in rw (e, grown_end) b

  listed_grown : (text : List ℕ) → listed 0 (n + 1) (held text after) ≡ listed 0 n (held text table) ++ (stretch text start end ∷ [])
  listed_grown text =
      rw (add-one n)
      (listed_more 0 n (held text after)
      ∙ (λ d. listed_same 0 n (held text after) (held text table) (λ j l. held_other text j (omega arith)) d ++ (last d ∷ [])))
    where
      last : held text after (0 + n) ≡ stretch text start end
      last = ap (held text after) (let e : 0 + n ≡ n = omega arith in e) ∙ held_last text

  pub filling_more : (text : List ℕ) (kind stop at rest : ℕ) → Filling text table kind stop at n rest → Here text kind stop rest start end
      → Filling text after kind stop at (n + 1) end
  unfolding all_names
  filling_more text kind stop at rest f h =
      let before : List Name = listed 0 n (held text table) in
      record {
        places = places_more text f.places h.whole h.inside;
        names =
            ap (λ (ns : List Name). ns ++ names_from text kind stop end) (listed_grown text)
            ∙ snoc before (stretch text start end) (names_from text kind stop end)
            ∙ ap (λ (ns : List Name). before ++ ns) (sym h.names)
            ∙ f.names;
        onward = (let a = f.onward in let b = h.onward in omega arith);
        inside = λ l. h.inside;
      }

pub filled_holds : (text table : List ℕ) (kind stop at count rest : ℕ) → Filled text table kind stop at count rest → Holds text table count rest
filled_holds text table kind stop at count rest f = record { places = f.filling.places; fewer = (let a = f.filling.onward in omega arith) }
