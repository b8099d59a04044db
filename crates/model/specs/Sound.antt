-- What holds of the class of every accepted sheet.
-- Assumes nothing.
use Rattle.std.specs.Prelude.{ℕ, ◌<◌, ◌^◌, ◌≡◌, Bool, true, ◌&&◌, ltb, length, get_or}
use mathlib.Core.List.{Memᴰ}
use Rattle.model.specs.Words.{has}
use Rattle.model.specs.Tree.{Referrer, move_to, run, stay, When, Statement, send, go_to, branch, Part, end, ◌then◌, Action, Class}
use Rattle.model.specs.Node.{own_states, state_of}
use Rattle.model.specs.Crews.{child_classes}

-- every move_to of a part leads to a state below S
unfoldable mutual
  pub statement_within : Statement → ℕ → Bool
  statement_within (send m p) S = true
  statement_within (go_to t) S = ltb t S
  statement_within (branch g a b) S = part_within a S && part_within b S

  pub part_within : Part → ℕ → Bool
  part_within end S = true
  part_within (s then p) S = statement_within s S && part_within p S

-- MOVE_TO an own state, DO an action clause of this state
abbrev pub ReferrerRight : Class → ℕ → Referrer → Type 0
ReferrerRight c q (move_to t) = t < own_states c
ReferrerRight c q (run a) = a < length (state_of c q).actions
ReferrerRight c q stay = Unit {0}

pub record Sound (c : Class) : Type 0 where
  pub some_state : 0 < own_states c
  pub named : (i : ℕ) → i < child_classes c → (n : ℕ) × (n < 32) × (has (get_or c.children i 0) n ≡ true)
  pub sets : (i : ℕ) → i < child_classes c → get_or c.children i 0 < 2 ^ 32
  pub referrers : (q : ℕ) (w : When) → Memᴰ w (state_of c q).whens → ReferrerRight c q w.referrer
  pub bodies : (q : ℕ) (a : Action) → Memᴰ a (state_of c q).actions → part_within a.body (own_states c) ≡ true
