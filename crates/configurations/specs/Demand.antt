-- What demand 3 asks of an answer to the loop question, over child lists of any length and phases of any number of moves.
-- Assumes nothing.
use Rattle.std.specs.Prelude.{ℕ, ◌<◌, ◌≤◌, ◌^◌, ◌≡◌, Bool, true, false, List, ◌↔◌}
use Rattle.model.specs.Tree.{Child, Class}
use Rattle.model.specs.Moves.{EndsAt, Ends, Returns}
use Rattle.model.specs.Node.{own_states, next}
use Rattle.model.specs.Crews.{fits}
use Rattle.configurations.specs.Configurations.{name_count, list_of}
use Rattle.configurations.specs.LoopAnswer.{Loops, loop, free}

-- for every child list in which exactly the present classes occur, the when phase ends from every state
abbrev pub AllEnd : Class → ℕ → Type 0
AllEnd c present = (ks : List Child) → fits c present ks ≡ true → (q : ℕ) → q < own_states c → Ends (next c ks) q

-- free with m moves: no phase exceeds m, one reaches it, and it is below the number of states
pub record FreeRight (c : Class) (present m : ℕ) : Type 0 where
  pub none_exceeds : (ks : List Child) → fits c present ks ≡ true → (q : ℕ) → q < own_states c → (n : ℕ) × (r : ℕ) × (n ≤ m) × EndsAt (next c ks) q n r
  pub one_reaches : (ks : List Child) × (q : ℕ) × (r : ℕ) × (fits c present ks ≡ true) × (q < own_states c) × EndsAt (next c ks) q m r
  pub below_states : m < own_states c

-- loop: the list fits, the state returns to itself with the children unchanged, and both are the smallest
pub record LoopRight (c : Class) (present k q : ℕ) (ks : List Child) : Type 0 where
  pub configuration : k < 2 ^ name_count c present
  pub list : ks ≡ list_of c present k
  pub list_fits : fits c present ks ≡ true
  pub own_state : q < own_states c
  pub returns : Returns (next c ks) q
  pub smallest_state : (r : ℕ) → r < q → Returns (next c ks) r → ⊥
  pub smallest_configuration : (j : ℕ) → j < k → fits c present (list_of c present j) ≡ true → (r : ℕ) → r < own_states c → Returns (next c (list_of c present j)) r → ⊥

abbrev pub AnswerRight : Class → ℕ → Loops → Type 0
AnswerRight c present (free m) = FreeRight c present m
AnswerRight c present (loop k q ks) = LoopRight c present k q ks

abbrev pub is_free : Loops → Bool
is_free (free m) = true
is_free (loop k q ks) = false

-- demand 3: "free" exactly if all phases end, and what the answer says is so
pub record Demanded (c : Class) (present : ℕ) (a : Loops) : Type 0 where
  pub free_exactly_if : (is_free a ≡ true) ↔ AllEnd c present
  pub right : AnswerRight c present a
