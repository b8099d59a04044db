-- The limits of the paper that a class can pass although its numbers are right, as a test of the class.
-- Assumes nothing.
use Rattle.std.specs.Prelude.{ℕ, suc, max, Bool, ◌&&◌, List, [], ◌∷◌, ◌++◌, map, length, ltb, leb}
use Rattle.model.specs.Words.{every}
use Rattle.model.specs.Tree.{Guard, atom, both, either, opposite, Statement, send, go_to, branch, Part, end, ◌then◌, Action, State, Class}
use Rattle.encoding.specs.Encoding.{gathered, when_records, all_guards, action_records, statement_records}

-- the most operators on one path of a guard
unfoldable pub operators : Guard → ℕ
operators (atom k p s) = 0
operators (both g h) = suc (max (operators g) (operators h))
operators (either g h) = suc (max (operators g) (operators h))
operators (opposite g) = suc (operators g)

-- how deep the ifs of a part are; a top if is 1 deep
unfoldable mutual
  pub part_depth : Part → ℕ
  part_depth end = 0
  part_depth (s then p) = max (statement_depth s) (part_depth p)

  pub statement_depth : Statement → ℕ
  statement_depth (send c p) = 0
  statement_depth (go_to q) = 0
  statement_depth (branch g a b) = suc (max (part_depth a) (part_depth b))

-- the guards of a part's ifs, an outer one before those in its parts
unfoldable mutual
  pub part_guards_of : Part → List Guard
  part_guards_of end = []
  part_guards_of (s then p) = statement_guards_of s ++ part_guards_of p

  pub statement_guards_of : Statement → List Guard
  statement_guards_of (send c p) = []
  statement_guards_of (go_to q) = []
  statement_guards_of (branch g a b) = g ∷ (part_guards_of a ++ part_guards_of b)

-- the guards of a state: its when clauses', then its ifs'
abbrev pub state_guards_of : State → List Guard
state_guards_of s = map (λ w. w.guard) s.whens ++ gathered (λ a. part_guards_of a.body) s.actions

-- all guards of a class, state by state
abbrev pub guards_of : Class → List Guard
guards_of c = gathered state_guards_of c.states

-- all its action clauses
abbrev pub actions_of : Class → List Action
actions_of c = gathered (λ s. s.actions) c.states

-- at most 8 child classes, 1 to 32 states, 256 when clauses, 1,024 guard records, 256 action clauses, 1,024 statements
unfoldable pub counts_within : Class → Bool
counts_within c =
    leb (length c.children) 8
    && (leb 1 (length c.states) && (leb (length c.states) 32
    && (leb (length (when_records c)) 256
    && (leb (length (all_guards c)) 1024
    && (leb (length (action_records c)) 256
    && leb (length (statement_records c)) 1024)))))

-- no child class has an empty set
unfoldable pub sets_within : Class → Bool
sets_within c = every (λ s. ltb 0 s) c.children

-- at most 16 operators lie on one path of a guard
unfoldable pub guards_within : Class → Bool
guards_within c = every (λ g. leb (operators g) 16) (guards_of c)

-- ifs are at most 8 deep
unfoldable pub depths_within : Class → Bool
depths_within c = every (λ a. leb (part_depth a.body) 8) (actions_of c)

-- the test: no limit is passed, and no child class has an empty set
unfoldable pub within_limits : Class → Bool
within_limits c = counts_within c && (sets_within c && (guards_within c && depths_within c))
