-- Laws about the table of moves: it is filled by the phase's turns, one for each state.
-- Assumes nothing.
use Prim.Native.Nat.{ℕ, ◌+◌, ◌<◌, ◌≤◌}
use native.Mathlib.Omega.{arith}
use mathlib.Core.Path.{◌≡◌, refl, sym, ap, ◌∙◌}
use mathlib.Core.List.{List}
use mathlib.Core.Logic.{◌⊎◌, inl, inr}
use mathlib.Core.Option.{none, some}
use lib.ListN.{length, set, replicate, length-set}
use lib.Seq.{get_or-set_same, get_or-set_other}
use Rattle.model.specs.Tree.{Child, When, State}
use Rattle.model.specs.Node.{own_states, first_true, probe, turn_for, turn, moved, next}
use Rattle.model.specs.declared.OwnState.{OwnState}
use Rattle.model.proofs.Words.{lt_or_le}
use Rattle.model.proofs.Lists.{get_or_alike}
use Rattle.model.proofs.NodeLaws.{stops_next, moves_next, next_within}
use Rattle.model.specs.Words.{Bytes}
use Rattle.sheet.specs.Contents.{body, bodies}
use Rattle.records.specs.Bytes.{in_fours}
use Rattle.sheet.specs.Reading.{class_of}
use Rattle.sheet.specs.Verdict.{Stands}
use Rattle.sheet.specs.declared.judging.Places.{Places}
use Rattle.sheet.proofs.Reading.{state_of_past}
use Rattle.sheet.proofs.Sound.{sound}
use Rattle.model.specs.Answers.{ending_as}
use Rattle.children.specs.ChildList.{children_of}
use Rattle.model.specs.declared.Ending.{Ending}
use Rattle.phases.specs.Phases.{Turns}
use Rattle.phases.specs.declared.Turn.TheVariants.{Stops, Moves}
use Rattle.phases.specs.declared.Turned.{Turned}
use Rattle.accepted.proofs.ClauseLaws.{states_few, states_are}
use Rattle.loops.specs.Chase.{leads, table_next, MovesTo, Tabulates}
use Rattle.loops.proofs.WalkLaws.{leads_there}

module _ (b : List ℕ) (p : Places) (stands : Stands b p) where
  -- past the last state no move is made
  none_past : (ks : List Child) (q : ℕ) → in_fours (body b 1) ≤ q → next (class_of b) ks q ≡ none
  unfolding next turn probe first_true turn_for class_of bodies
  none_past ks q l =
      ap (λ (ws : List When). moved (turn_for (class_of b) ks q (first_true ks 0 ws))) (ap (λ (x : State). x.whens) (state_of_past (bodies b) q l))

  -- the byte for a turn
  module _ (list : List ℕ) (q : ℕ) (before after : List ℕ) (at : ℕ) (r : Turned) (h : Turns b list q before after at r) where
    pub moves_byte : Bytes b → (t : OwnState) → r.turn ≡ Moves t → MovesTo b list q t.0
    moves_byte bytes t e =
        let n : next (class_of b) (children_of list) q ≡ some t.0 = moves_next (class_of b) (children_of list) q t.0 _ (sym (rw e at h.turn_is)) in
        let l : t.0 < own_states (class_of b) = next_within (class_of b) (children_of list) (sound b bytes stands.accepted) q t.0 n in
        leads_there t.0 (λ z. let x = states_are b p stands in let y = states_few b p stands in omega arith) ∙ sym n

    pub stops_byte : (t : Ending) → r.turn ≡ Stops t → MovesTo b list q 255
    stops_byte t e = sym (stops_next (class_of b) (children_of list) q (ending_as t) _ (sym (rw e at h.turn_is)))

-- the table of the first q states
pub record Tabulating (b list to : List ℕ) (q : ℕ) : Type 0 where
  pub table : length to ≡ 32
  pub filled : (j : ℕ) → j < q → table_next to j ≡ next (class_of b) (children_of list) j
  pub rest : (j : ℕ) → q ≤ j → table_next to j ≡ none

-- a store in the table
stored : (to : List ℕ) (i r : ℕ) → i < length to → table_next (set to i r) i ≡ leads r
unfolding table_next
stored to i r l = ap leads (get_or-set_same to i r 255 l)

kept_there : (to : List ℕ) (i r j : ℕ) → (j ≡ i → ⊥) → table_next (set to i r) j ≡ table_next to j
unfolding table_next
kept_there to i r j h = ap leads (get_or-set_other to i j r 255 h)

module _ (b list : List ℕ) where
  pub tabulating_start : Tabulating b list (replicate 32 255) 0
  unfolding table_next
  tabulating_start = record { table = refl; filled = λ j l. absurd (omega arith); rest = λ j l. ap leads (get_or_alike 32 j 255) }

  pub tabulating_more : (to : List ℕ) (q r : ℕ) → Tabulating b list to q → q < 32 → MovesTo b list q r → Tabulating b list (set to q r) (q + 1)
  tabulating_more to q r t l m =
      record {
        table = length-set to q r ∙ t.table;
        filled = λ j u. at j u (lt_or_le j q);
        rest = λ j u. kept_there to q r j (λ e. omega arith) ∙ t.rest j (omega arith);
      }
    where
      at : (j : ℕ) → j < q + 1 → (j < q) ⊎ (q ≤ j) → table_next (set to q r) j ≡ next (class_of b) (children_of list) j
      at j u (inl v) = kept_there to q r j (λ e. omega arith) ∙ t.filled j v
      at j u (inr v) =
          let e : j ≡ q = omega arith in
          rw e (stored to q r (let x = t.table in omega arith) ∙ m)

  pub tabulating_end : (p : Places) → Stands b p → (to : List ℕ) (q n : ℕ) → Tabulating b list to q → n ≡ in_fours (body b 1) → n ≤ q → Tabulates b list (record { to = to })
  tabulating_end p stands to q n t e l j = at (lt_or_le j q)
    where
      at : (j < q) ⊎ (q ≤ j) → table_next to j ≡ next (class_of b) (children_of list) j
      at (inl u) = t.filled j u
      at (inr u) = t.rest j u ∙ sym (none_past b p stands (children_of list) j (omega arith))
