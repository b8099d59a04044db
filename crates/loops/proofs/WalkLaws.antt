-- Laws about the walks over a table of moves: a walk comes back or does not, and the smallest state from which one does.
-- Assumes nothing.
use Prim.Native.Nat.{ℕ, zero, suc, ◌+◌, ◌<◌, ◌≤◌}
use native.Mathlib.Omega.{arith}
use native.Mathlib.Numerals.{add-one}
use mathlib.Core.Path.{◌≡◌, refl, sym, ap, ◌∙◌, fun_ext}
use mathlib.Core.Bool.{Bool, true, false}
use mathlib.Core.List.{List, [], ◌∷◌}
use mathlib.Core.Logic.{◌⊎◌, inl, inr}
use mathlib.Core.Option.{Option, none, some}
use lib.ListN.{length, get_or, get_or-eq_default}
use borrow.Author.Tests.{eq-eqb, ne_eqb}
use Rattle.model.specs.Words.{maybe, some_below}
use Rattle.model.specs.Tree.{Child}
use Rattle.model.specs.Moves.{Next, after, EndsAt, is_at, returns_soon}
use Rattle.model.specs.Node.{own_states, next}
use Rattle.model.proofs.Words.{true_not_false, not_not_true, lt_or_le, below_next, some_below_intro, some_below_elim, least_found, least_not}
use Rattle.model.proofs.Moves.{after_zero, after_add, after_ended}
use Rattle.sheet.specs.Reading.{class_of}
use Rattle.children.specs.ChildList.{children_of}
use Rattle.configurations.specs.LoopAnswer.{returning}
use Rattle.loops.specs.Chase.{leads, table_next, Tabulates, smallest, returning_state}
use Rattle.loops.specs.declared.chase.Table.{Table}

-- a byte other than 255 leads there
pub leads_there : (t : ℕ) → (t ≡ 255 → ⊥) → leads t ≡ some t
leads_there t h = rw (ne_eqb t 255 h)

-- an entry of the table, whatever stands past its end
entry : (to : List ℕ) (i : ℕ) → i < length to → get_or to i 255 ≡ get_or to i 0
entry [] i l = absurd (omega arith)
entry (x ∷ to) zero l = refl
entry (x ∷ to) (suc i) l = entry to i (omega arith)

module _ (to : List ℕ) where
  pub table_there : (i t : ℕ) → i < length to → get_or to i 0 ≡ t → (t ≡ 255 → ⊥) → table_next to i ≡ some t
  unfolding table_next
  table_there i t l e h = ap leads (entry to i l ∙ e) ∙ leads_there t h

  pub table_nowhere : (i : ℕ) → i < length to → get_or to i 0 ≡ 255 → table_next to i ≡ none
  unfolding table_next
  table_nowhere i l e = ap leads (entry to i l ∙ e)

  pub table_past : (i : ℕ) → length to ≤ i → table_next to i ≡ none
  unfolding table_next
  table_past i l = ap leads (get_or-eq_default to 255 l)

module _ (mv : Next) where
  -- whether a state returns by fewer moves
  no_return : (n q : ℕ) → ((j : ℕ) → j < n → is_at q (after mv (suc j) q) ≡ false) → returns_soon mv n q ≡ false
  unfolding returns_soon
  no_return n q h =
      not_not_true (some_below n (λ j. is_at q (after mv (suc j) q)))
      (λ t. let (j, l, u) = some_below_elim n (λ j. is_at q (after mv (suc j) q)) t in true_not_false u (h j l))

  not_yet : (n q : ℕ) → returns_soon mv n q ≡ false → (j : ℕ) → j < n → is_at q (after mv (suc j) q) ≡ false
  unfolding returns_soon
  not_yet n q h j l =
      not_not_true (is_at q (after mv (suc j) q))
      (λ t. true_not_false (some_below_intro n (λ j. is_at q (after mv (suc j) q)) j l t) h)

  -- one move more
  one_more : (m q r : ℕ) → after mv m q ≡ some r → after mv (suc m) q ≡ mv r
  unfolding after
  one_more m q r e = ap (λ (n : ℕ). after mv n q) (sym (add-one m)) ∙ after_add mv m 1 q r e ∙ go (mv r)
    where
      go : (o : Option ℕ) → maybe o (λ _. none) (after mv 0) ≡ o
      go none = refl
      go (some t) = refl

-- a walk from q after some moves: it is at a state, and has not been at q again
pub record Walking (to : List ℕ) (n q here m : ℕ) : Type 0 where
  pub table : length to ≡ 32
  pub few : m ≤ n
  pub reached : after (table_next to) m q ≡ some here
  pub away : returns_soon (table_next to) m q ≡ false

module _ (to : List ℕ) (n q : ℕ) where
  pub walking_start : length to ≡ 32 → Walking to n q q 0
  unfolding returns_soon some_below
  walking_start l = record { table = l; few = omega arith; reached = after_zero (table_next to) q; away = refl }

  module _ (here m : ℕ) (w : Walking to n q here m) where
    -- it ends
    pub walking_ended : m < n → table_next to here ≡ none → false ≡ returns_soon (table_next to) n q
    walking_ended l e = sym (no_return (table_next to) n q away)
      where
        E : EndsAt (table_next to) q m here
        E = record { reached = w.reached; ended = e }

        at : (j : ℕ) → (j < m) ⊎ (m ≤ j) → is_at q (after (table_next to) (suc j) q) ≡ false
        at j (inl u) = not_yet (table_next to) m q w.away j u
        at j (inr u) = ap (is_at q) (after_ended (table_next to) q m here (suc j) E (omega arith))

        away : (j : ℕ) → j < n → is_at q (after (table_next to) (suc j) q) ≡ false
        away j u = at j (lt_or_le j m)

    pub walking_out : m < n → 32 ≤ here → false ≡ returns_soon (table_next to) n q
    walking_out l u = walking_ended l (table_past to here (let x = w.table in omega arith))

    pub walking_stops : m < n → here < 32 → get_or to here 0 ≡ 255 → false ≡ returns_soon (table_next to) n q
    walking_stops l u e = walking_ended l (table_nowhere to here (let x = w.table in omega arith) e)

    module _ (low : here < 32) (some_move : get_or to here 0 ≡ 255 → ⊥) where
      moved_there : after (table_next to) (suc m) q ≡ some (get_or to here 0)
      moved_there = one_more (table_next to) m q here w.reached ∙ table_there to here (get_or to here 0) (let x = w.table in omega arith) refl some_move

      -- it is back
      pub walking_back : m < n → get_or to here 0 ≡ q → true ≡ returns_soon (table_next to) n q
      unfolding returns_soon
      walking_back l e = sym (some_below_intro n (λ j. is_at q (after (table_next to) (suc j) q)) m l (rw moved_there (eq-eqb (get_or to here 0) q e)))

      -- it goes on
      pub walking_more : m < n → (get_or to here 0 ≡ q → ⊥) → Walking to n q (get_or to here 0) (m + 1)
      walking_more l h =
          record {
            table = w.table;
            few = omega arith;
            reached = rw add-one moved_there;
            away = rw add-one (no_return (table_next to) (suc m) q (below_next (λ j. is_at q (after (table_next to) (suc j) q) ≡ false) m (not_yet (table_next to) m q w.away) (rw moved_there (ne_eqb (get_or to here 0) q h))));
          }

    -- it has made all its moves
    pub walking_all : n ≤ m → false ≡ returns_soon (table_next to) n q
    walking_all l =
        let e : m ≡ n = (let x = w.few in omega arith) in
        sym (ap (λ (x : ℕ). returns_soon (table_next to) x q) (sym e) ∙ w.away)

-- the smallest state that returns: none before q does
module _ (f : ℕ → Bool) where
  pub none_start : (j : ℕ) → j < 0 → f j ≡ false
  none_start j l = absurd (omega arith)

  pub none_more : (q : ℕ) → ((j : ℕ) → j < q → f j ≡ false) → (r : Bool) → r ≡ f q → r ≡ false → (j : ℕ) → j < q + 1 → f j ≡ false
  none_more q h r e t j l = below_next (λ j. f j ≡ false) q h (sym e ∙ t) j (let z : j < suc q = omega arith in z)

  pub smallest_here : (n q : ℕ) → ((j : ℕ) → j < q → f j ≡ false) → q < n → (r : Bool) → r ≡ f q → r ≡ true → q ≡ smallest n f
  smallest_here n q h l r e t = rw (least_found n f q l (sym e ∙ t) h)

  pub smallest_none : (n q : ℕ) → ((j : ℕ) → j < q → f j ≡ false) → n ≤ q → 0 ≡ smallest n f
  smallest_none n q h l = rw (least_not n f (λ j u. h j (omega arith)))

-- the table of a configuration's moves gives the class's smallest state
pub state_told : (b list : List ℕ) (ks : List Child) (t : Table) (n q : ℕ) → Tabulates b list t → children_of list ≡ ks → n ≡ own_states (class_of b) → q ≡ smallest n (returns_soon (table_next t.to) n)
    → q ≡ returning_state (class_of b) ks
unfolding returning
state_told b list ks t n q T c e h =
    let moves : table_next t.to ≡ next (class_of b) ks = fun_ext (λ q. T q) ∙ ap (next (class_of b)) c in
    h ∙ rw (moves, e)
