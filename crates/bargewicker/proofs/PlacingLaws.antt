-- Laws about specs/Placing.antt: the checks of the child list and of the asked state, and what every question behind them is.
-- Assumes nothing.
use Prim.Native.Nat.{ℕ, ◌<◌, ◌≤◌}
use native.Mathlib.Omega.{arith}
use mathlib.Core.Path.{◌≡◌, refl, sym, ◌∙◌, ap}
use mathlib.Core.Bool.{Bool, true, false, not}
use mathlib.Core.List.{List}
use lib.Dec.{ltb}
use lib.ListN.{length}
use borrow.Author.Tests.{lt-ltb, le-ltb, ltb-true}
use Rattle.std.specs.Prelude.{Result, Ok, Err}
use Rattle.model.specs.Words.{choose}
use Rattle.model.specs.Tree.{Class}
use Rattle.model.specs.Node.{own_states}
use Rattle.model.specs.Refusals.{number_of}
use Rattle.model.specs.Replies.{Reply, refuse}
use Rattle.model.specs.declared.Refusal.{Refusal}
use Rattle.model.proofs.Words.{passed, not_passed}
use Rattle.model.proofs.RefusalLaws.{numbered_from_1}
use Rattle.records.specs.Bytes.{in_fours}
use Rattle.sheet.specs.Contents.{bodies, body}
use Rattle.sheet.specs.Reading.{class_of}
use Rattle.sheet.specs.Verdict.{refused_number, Stands}
use Rattle.sheet.specs.declared.judging.Places.{Places}
use Rattle.sheet.proofs.Reading.{own_states_in}
use Rattle.accepted.proofs.ReaderLaws.{classes_few}
use Rattle.children.specs.ChildList.{children_of, list_right}
use Rattle.children.specs.Lists.{pairs_right}
use Rattle.children.specs.NameSets.{Shows, Crewed}
use Rattle.children.proofs.ListLaws.{pairs_list, list_crewed}
use Rattle.bargewicker.specs.Questions.{placed}
use Rattle.bargewicker.specs.Placing.{placed_refusal}
use Rattle.bargewicker.proofs.QuestionLaws.{not_placed, is_placed}

module _ (b : List ℕ) (p : Places) (s : Stands b p) where
  -- few enough child classes for the list's check
  pub classes_short : (l : List ℕ) → l ≡ body b 0 → length l ≤ 1024
  classes_short l e = let f = (classes_few b p s l _ refl e).1 in omega arith

  module _ (classes l : List ℕ) (e : classes ≡ body b 0) (r : Bool) (f : r ≡ pairs_right classes l) (q : ℕ) where
    -- the list's check is the paper's
    listed_right : r ≡ list_right (class_of b) l
    listed_right = f ∙ ap (λ (c : List ℕ). pairs_right c l) e ∙ pairs_list b l

    pub place_10 : not r ≡ true → ◌≡◌ {A = ℕ} 10 (placed_refusal (class_of b) l q)
    unfolding placed_refusal
    place_10 h = rw (not_passed listed_right h)

    module _ (h : not r ≡ false) (n : ℕ) (g : n ≡ in_fours (body b 1)) where
      states : n ≡ own_states (class_of b)
      unfolding class_of bodies
      states = g ∙ sym (own_states_in (bodies b))

      pub place_11 : n ≤ q → ◌≡◌ {A = ℕ} 11 (placed_refusal (class_of b) l q)
      unfolding placed_refusal
      place_11 m = let k : own_states (class_of b) ≤ q = rw states at m in rw (passed listed_right h, le-ltb q (own_states (class_of b)) k)

      pub place_0 : q < n → ◌≡◌ {A = ℕ} 0 (placed_refusal (class_of b) l q)
      unfolding placed_refusal
      place_0 m = let k : q < own_states (class_of b) = rw states at m in rw (passed listed_right h, lt-ltb q (own_states (class_of b)) k)

-- what passing both says of the list
pub placed_list : (c : Class) (l : List ℕ) (q : ℕ) → 0 ≡ placed_refusal c l q → list_right c l ≡ true
unfolding placed_refusal
placed_list c l q e = go (list_right c l) refl e
  where
    go : (t : Bool) → list_right c l ≡ t → ◌≡◌ {A = ℕ} 0 (choose t (λ _. choose (ltb q (own_states c)) (λ _. 0) (λ _. 11)) (λ _. 10)) → list_right c l ≡ true
    go true f e = f
    go false f e = absurd (omega arith)

-- and of the state
pub placed_state : (c : Class) (l : List ℕ) (q : ℕ) → 0 ≡ placed_refusal c l q → q < own_states c
unfolding placed_refusal
placed_state c l q e = go (list_right c l) (ltb q (own_states c)) refl e
  where
    go : (t u : Bool) → ltb q (own_states c) ≡ u → ◌≡◌ {A = ℕ} 0 (choose t (λ _. choose u (λ _. 0) (λ _. 11)) (λ _. 10)) → q < own_states c
    go true true f e = ltb-true q (own_states c) f
    go true false f e = absurd (omega arith)
    go false u f e = absurd (omega arith)

-- what the check of both answered, for every question that begins with it
module _ (b : List ℕ) (p : Places) (s : Stands b p) (l : List ℕ) (q : ℕ) (r : Result (Unit {0}) Refusal) (e : refused_number r ≡ placed_refusal (class_of b) l q) where
  pub not_fitting : {A : Type 0} (x : Refusal) → r ≡ Err x → (rest : Class → Reply A) → placed b l q rest ≡ refuse (number_of x)
  not_fitting x f rest = not_placed b s.accepted l q rest (number_of x) (sym (ap refused_number f) ∙ e) (numbered_from_1 x)

  module _ (u : Unit {0}) (f : r ≡ Ok u) where
    none : ◌≡◌ {A = ℕ} 0 (placed_refusal (class_of b) l q)
    none = sym (ap refused_number f) ∙ e

    pub fitting : {A : Type 0} (rest : Class → Reply A) → placed b l q rest ≡ rest (class_of b)
    fitting rest = is_placed b s.accepted l q rest none

    pub right_list : list_right (class_of b) l ≡ true
    right_list = placed_list (class_of b) l q none

    pub asked_low : q < in_fours (body b 1)
    unfolding class_of bodies
    asked_low = omega (arith, own_states_in (bodies b), placed_state (class_of b) l q none)

    -- the crew of the list
    pub crew : (sets : List ℕ) → length sets ≡ 8 → Shows sets (children_of l) → Crewed sets (children_of l)
    crew sets n h = list_crewed b s.accepted l right_list sets n h
