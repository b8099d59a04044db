-- The clauses of a sheet as tables.
-- Assumes nothing.
use Rattle.std.specs.Prelude.{ℕ, ◌+◌, ◌*◌, ◌<◌, ◌≤◌, ◌≡◌, List, ◌⊎◌, length, get_or}
use Rattle.model.specs.Tree.{Referrer}
use Rattle.records.specs.Bytes.{in_fours}
use Rattle.bodies.specs.Clauses.{count_sum, first_when, first_action, guard_place, referrer_number, target, referrer_of, first_statement}
use Rattle.sheet.specs.Contents.{body}
use Rattle.arrows.specs.Sorting.{aim}
use Rattle.arrows.specs.declared.sorting.Clauses.{Clauses}

-- the first clause of each state, behind the last state the number of all, and behind that zeros
pub record FirstsOf (states : List ℕ) (offset : ℕ) (firsts : List ℕ) : Type 0 where
  pub long : length firsts ≡ 33
  pub first : (q : ℕ) → q ≤ in_fours states → get_or firsts q 0 ≡ count_sum states offset q
  pub no_first : (q : ℕ) → in_fours states < q → get_or firsts q 0 ≡ 0

-- the byte at which the statements of each action clause start, behind the last clause where they end, and behind that zeros
pub record FromsOf (actions froms : List ℕ) : Type 0 where
  pub long : length froms ≡ 257
  pub from : (a : ℕ) → a ≤ in_fours actions → get_or froms a 0 ≡ first_statement actions a * 8
  pub no_from : (a : ℕ) → in_fours actions < a → get_or froms a 0 ≡ 0

-- the referrer of when clause w
abbrev pub referrer_in : List ℕ → ℕ → Referrer
referrer_in whens w = referrer_of (referrer_number whens w) (target whens w)

-- the clauses from first to last of state q, whose action clauses stand from `action` on, were read; the other entries are as before
pub record ReadState (whens : List ℕ) (first last q action : ℕ) (old_places old_aims places aims : List ℕ) : Type 0 where
  pub places_long : length places ≡ length old_places
  pub aims_long : length aims ≡ length old_aims
  pub place : (w : ℕ) → first ≤ w → w < last → get_or places w 0 ≡ guard_place whens w
  pub aimed : (w : ℕ) → first ≤ w → w < last → get_or aims w 0 ≡ aim q action (referrer_in whens w)
  pub kept_place : (w : ℕ) → (w < first) ⊎ (last ≤ w) → get_or places w 0 ≡ get_or old_places w 0
  pub kept_aim : (w : ℕ) → (w < first) ⊎ (last ≤ w) → get_or aims w 0 ≡ get_or old_aims w 0

-- what is lent for that
pub record StateLent (first last q action : ℕ) (places aims : List ℕ) : Type 0 where
  pub rising : first ≤ last
  pub inside : last ≤ 256
  pub state : q < 32
  pub few : action ≤ 256
  pub of_places : length places ≡ 256
  pub of_aims : length aims ≡ 256

-- the places of the guards of the first n states' clauses, and where these aim; behind them zeros
pub record WhensOf (states whens : List ℕ) (n : ℕ) (places aims : List ℕ) : Type 0 where
  pub places_long : length places ≡ 256
  pub aims_long : length aims ≡ 256
  pub place : (w : ℕ) → w < first_when states n → get_or places w 0 ≡ guard_place whens w
  pub aimed : (q w : ℕ) → q < n → first_when states q ≤ w → w < first_when states (q + 1) → get_or aims w 0 ≡ aim q (first_action states q) (referrer_in whens w)
  pub no_place : (w : ℕ) → first_when states n ≤ w → get_or places w 0 ≡ 0
  pub no_aim : (w : ℕ) → first_when states n ≤ w → get_or aims w 0 ≡ 0

-- the clauses of a sheet
pub record ClausesOf (b : List ℕ) (r : Clauses) : Type 0 where
  pub whens : WhensOf (body b 1) (body b 2) (in_fours (body b 1)) r.places r.aims
  pub firsts_right : FirstsOf (body b 1) 0 r.firsts
  pub actions_right : FirstsOf (body b 1) 2 r.actions
  pub froms_right : FromsOf (body b 4) r.froms
  pub number : r.states ≡ in_fours (body b 1)
