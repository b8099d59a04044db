-- Sheets and limits that compute, each as one closed statement.
-- Assumes nothing.
use Prim.Native.Nat.{ℕ, zero, suc, ◌+◌}
use mathlib.Core.Path.{◌≡◌, refl}
use mathlib.Core.Bool.{true, false}
use mathlib.Core.List.{[], ◌∷◌, map}
use native.Mathlib.Omega.{arith}
use lib.ListN.{length, replicate}
use Rattle.model.specs.Tree.{everyone, of_class, any_in, any_not_in, all_in, Guard, atom, both, opposite, move_to, run, stay, When, send, go_to, branch, Part, end, ◌then◌, Class, no_state, no_action}
use Rattle.sheet.specs.Rules.{refusal}
use Rattle.sheet.specs.Reading.{class_of}
use Rattle.sheet.specs.Samples.{sheet_A, sheet_C}
use Rattle.encoding.specs.Encoding.{guard_records, gathered, when_records, all_guards, sheet_of}
use Rattle.encoding.specs.Limits.{guards_of, within_limits}
use Rattle.encoding.specs.Numbers.{Numbers}
use Rattle.encoding.specs.Within.{Within}
use Rattle.encoding.proofs.Computing.{computing}

abbrev when : Guard → ℕ → When
when g t = record { guard = g; referrer = move_to t }

-- the class of sheet A: heaters, READY, HOLD
unfoldable pub class_A : Class
class_A =
    record {
      children = 7 ∷ [];
      states =
          record { whens = when (atom any_not_in (of_class 0) 2) 1 ∷ []; actions = [] }
          ∷ record { whens = when (atom any_in (of_class 0) 2) 0 ∷ []; actions = [] }
          ∷ [];
    }

-- its sheet is A
pub sheet_is_A : (sheet_of class_A ≡ sheet_A) × (class_of sheet_A ≡ class_A)
unfolding computing class_A
sheet_is_A = (refl, refl)

-- in C an if shares a when clause's guard; the sheet of its class has that guard twice, 8 bytes more, and stands for the same class
pub C_written_out : (length (sheet_of (class_of sheet_C)) ≡ length sheet_C + 8) × (class_of (sheet_of (class_of sheet_C)) ≡ class_of sheet_C)
unfolding computing
C_written_out = (refl, refl)

-- two states; the first with two when clauses of one guard and an action clause with an if in an if, the second with a when clause
unfoldable pub some_class : Class
some_class =
    record {
      children = 7 ∷ 65539 ∷ [];
      states =
          record {
            whens =
                record { guard = both (atom any_in everyone 5) (opposite (atom all_in (of_class 1) 2)); referrer = run 0 }
                ∷ record { guard = both (atom any_in everyone 5) (opposite (atom all_in (of_class 1) 2)); referrer = stay }
                ∷ [];
            actions =
                record {
                  command = 9;
                  body =
                      branch (atom any_not_in (of_class 0) 300) (branch (opposite (atom any_in everyone 1)) (send 4 everyone then end) (go_to 0 then end) then end) (send 5 (of_class 1) then end)
                      then (go_to 1 then end);
                } ∷ [];
          }
          ∷ record { whens = when (atom any_in (of_class 0) 2) 0 ∷ []; actions = [] }
          ∷ [];
    }

-- it is accepted, and stands for the class
pub some_back : (refusal (sheet_of some_class) ≡ 0) × (class_of (sheet_of some_class) ≡ some_class)
unfolding computing some_class
some_back = (refl, refl)

-- its guards in order: the when clauses' of the first state, its ifs', the outer one first, and the second state's
pub some_order : guards_of some_class
    ≡ both (atom any_in everyone 5) (opposite (atom all_in (of_class 1) 2)) ∷ both (atom any_in everyone 5) (opposite (atom all_in (of_class 1) 2))
    ∷ atom any_not_in (of_class 0) 300 ∷ opposite (atom any_in everyone 1) ∷ atom any_in (of_class 0) 2 ∷ []
unfolding computing some_class
some_order = refl

-- and its guard records are theirs, so that no guard is shared: the second clause's stand behind the first's, at 4, the second state's at 11
pub some_guards : (all_guards some_class ≡ gathered guard_records (guards_of some_class)) × (map (λ r. r.b0) (when_records some_class) ≡ 0 ∷ 4 ∷ 11 ∷ [])
unfolding computing some_class
some_guards = (refl, refl)

-- a class with one when clause, whose guard has n operators on its path
unfoldable pub nots : ℕ → Guard
nots zero = atom any_in everyone 1
nots (suc n) = opposite (nots n)

unfoldable pub with_operators : ℕ → Class
with_operators n = record { children = []; states = record { whens = when (nots n) 0 ∷ []; actions = [] } ∷ [] }

-- 16 are within the limits; 17 are not, and the judge refuses such a sheet by 6
pub sixteen_operators : (within_limits (with_operators 16) ≡ true) × (refusal (sheet_of (with_operators 16)) ≡ 0)
unfolding computing nots with_operators
sixteen_operators = (refl, refl)

pub seventeen_operators : (within_limits (with_operators 17) ≡ false) × (Within (with_operators 17) → ⊥) × (refusal (sheet_of (with_operators 17)) ≡ 6)
unfolding computing nots with_operators
seventeen_operators = (refl, (λ w. let z = w.paths.0 in omega arith), refl)

-- a class with one action clause, whose ifs are n deep
unfoldable pub ifs : ℕ → Part
ifs zero = end
ifs (suc n) = branch (atom any_in everyone 1) (ifs n) end then end

unfoldable pub with_ifs : ℕ → Class
with_ifs n = record { children = []; states = record { whens = []; actions = record { command = 0; body = ifs n } ∷ [] } ∷ [] }

-- 8 are within the limits; 9 are not, and the judge refuses such a sheet by 9
pub eight_ifs : (within_limits (with_ifs 8) ≡ true) × (refusal (sheet_of (with_ifs 8)) ≡ 0)
unfolding computing ifs with_ifs
eight_ifs = (refl, refl)

pub nine_ifs : (within_limits (with_ifs 9) ≡ false) × (Within (with_ifs 9) → ⊥) × (refusal (sheet_of (with_ifs 9)) ≡ 9)
unfolding computing ifs with_ifs
nine_ifs = (refl, (λ w. let z = w.depths.0 in omega arith), refl)

-- a class with n states that have no clauses; 33 are too many, and refused by 2
unfoldable pub with_states : ℕ → Class
with_states n = record { children = []; states = replicate n no_state }

pub thirty_three_states : (within_limits (with_states 32) ≡ true) × (within_limits (with_states 33) ≡ false) × (refusal (sheet_of (with_states 33)) ≡ 2)
unfolding computing with_states
thirty_three_states = (refl, refl, refl)

-- a child class with an empty set, refused by 3
unfoldable pub with_empty_set : Class
with_empty_set = record { children = 0 ∷ []; states = no_state ∷ [] }

pub empty_set : (within_limits with_empty_set ≡ false) × (refusal (sheet_of with_empty_set) ≡ 3)
unfolding computing with_empty_set
empty_set = (refl, refl)

-- a command twice in a state, refused by 8; the numbers of such a class are not right
unfoldable pub with_command_twice : Class
with_command_twice = record { children = []; states = record { whens = []; actions = no_action ∷ no_action ∷ [] } ∷ [] }

pub command_twice : (Numbers with_command_twice → ⊥) × (refusal (sheet_of with_command_twice) ≡ 8)
unfolding computing with_command_twice
command_twice = ((λ n. n.states.0.none_twice 1 0 (omega arith) (omega arith) refl), refl)
