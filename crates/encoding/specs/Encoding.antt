-- The one sheet of a class: every when clause and every if has guard records of its own, which stand in the class's order: state by state,
-- first those of its when clauses, then those of the ifs of its action clauses, an outer if's before those of the ifs in its parts.
-- Assumes nothing.
use Rattle.std.specs.Prelude.{ℕ, ◌+◌, ◌/◌, ◌%◌, List, [], ◌∷◌, ◌++◌, map, length}
use Rattle.model.specs.Tree.{Pattern, everyone, of_class, Kind, any_in, any_not_in, all_in, all_not_in, Guard, atom, both, either, opposite, Referrer, move_to, run, stay, When, Statement, send, go_to, branch, Part, end, ◌then◌, Action, State, Class}
use Rattle.encoding.specs.Records.{Four, Eight, four, eight, pair, number, zeros, fours, eights}

-- 0 ANY in, 1 ANY not in, 2 ALL in, 3 ALL not in
unfoldable pub kind_number : Kind → ℕ
kind_number any_in = 0
kind_number any_not_in = 1
kind_number all_in = 2
kind_number all_not_in = 3

-- 255 for all children, else the child class
abbrev pub pattern_number : Pattern → ℕ
pattern_number everyone = 255
pattern_number (of_class c) = c

-- an operator's record: its kind and seven zero bytes
abbrev pub operator_record : ℕ → Eight
operator_record k = eight (four k 0 0 0) zeros

-- a guard's records: an operator's operands follow it directly, left before right
unfoldable pub guard_records : Guard → List Eight
guard_records (atom k p s) = eight (four (kind_number k) (pattern_number p) 0 0) (number s) ∷ []
guard_records (both g h) = operator_record 4 ∷ (guard_records g ++ guard_records h)
guard_records (either g h) = operator_record 5 ∷ (guard_records g ++ guard_records h)
guard_records (opposite g) = operator_record 6 ∷ guard_records g

-- the guard records of a part's ifs
unfoldable mutual
  pub part_guards : Part → List Eight
  part_guards end = []
  part_guards (s then p) = statement_guards s ++ part_guards p

  pub statement_guards : Statement → List Eight
  statement_guards (send c p) = []
  statement_guards (go_to q) = []
  statement_guards (branch g a b) = guard_records g ++ (part_guards a ++ part_guards b)

-- the statement records of a part whose first guard record has place n: a statement's own record, then those of its parts
unfoldable mutual
  pub part_records : Part → ℕ → List Eight
  part_records end n = []
  part_records (s then p) n = own_record s n ∷ (inner_records s n ++ part_records p (n + length (statement_guards s)))

  pub own_record : Statement → ℕ → Eight
  own_record (send c p) n = eight (four 0 c (pattern_number p) 0) zeros
  own_record (go_to q) n = eight (four 1 q 0 0) zeros
  own_record (branch g a b) n =
      let m : ℕ = n + length (guard_records g) in
      eight (four 2 0 (n % 256) (n / 256)) (pair (length (part_records a m)) (length (part_records b (m + length (part_guards a)))))

  pub inner_records : Statement → ℕ → List Eight
  inner_records (send c p) n = []
  inner_records (go_to q) n = []
  inner_records (branch g a b) n =
      let m : ℕ = n + length (guard_records g) in
      part_records a m ++ part_records b (m + length (part_guards a))

-- what f makes of each entry of a list, one behind the other
unfoldable pub gathered : {A B : Type 0} → (A → List B) → List A → List B
gathered f [] = []
gathered f (x ∷ xs) = f x ++ gathered f xs

-- the same where f is told the place of the entry's first guard record, n being that of the first entry's; guards x are the guard records of x
unfoldable pub placed : {A B : Type 0} → (A → List Eight) → (A → ℕ → List B) → List A → ℕ → List B
placed guards f [] n = []
placed guards f (x ∷ xs) n = f x n ++ placed guards f xs (n + length (guards x))

-- the guard records of a when clause, of an action clause, of a state
abbrev pub when_guards : When → List Eight
when_guards w = guard_records w.guard

abbrev pub action_guards : Action → List Eight
action_guards a = part_guards a.body

abbrev pub state_guards : State → List Eight
state_guards s = gathered when_guards s.whens ++ gathered action_guards s.actions

-- 0 MOVE_TO, 1 DO, 2 STAY
abbrev pub referrer_code : Referrer → ℕ
referrer_code (move_to q) = 0
referrer_code (run a) = 1
referrer_code stay = 2

-- the own state of a MOVE_TO, the action clause of a DO, 0 for STAY
abbrev pub referrer_target : Referrer → ℕ
referrer_target (move_to q) = q
referrer_target (run a) = a
referrer_target stay = 0

-- a when clause whose guard has place n
abbrev pub when_record : When → ℕ → Four
when_record w n = four (n % 256) (n / 256) (referrer_code w.referrer) (referrer_target w.referrer)

-- an action clause whose first guard record has place n: command, a zero byte, the number of its statement records
abbrev pub action_record : Action → ℕ → Four
action_record a n = let t : ℕ = length (part_records a.body n) in four a.command 0 (t % 256) (t / 256)

-- the when clauses of a state whose first guard record has place n
abbrev pub state_whens : State → ℕ → List Four
state_whens s n = placed when_guards (λ w m. when_record w m ∷ []) s.whens n

-- the place behind the guard records of its when clauses
abbrev pub after_whens : State → ℕ → ℕ
after_whens s n = n + length (gathered when_guards s.whens)

-- its action clauses
abbrev pub state_actions : State → ℕ → List Four
state_actions s n = placed action_guards (λ a m. action_record a m ∷ []) s.actions (after_whens s n)

-- its statement records
abbrev pub state_statements : State → ℕ → List Eight
state_statements s n = placed action_guards (λ a m. part_records a.body m) s.actions (after_whens s n)

-- a state's record: the numbers of its when and of its action clauses; w and a, its first when and its first action clause, are not written
abbrev pub state_record : State → ℕ → ℕ → Four
state_record s w a = pair (length s.whens) (length s.actions)

-- the records of states, of which the first has w and a as its first clauses
unfoldable pub state_records : List State → ℕ → ℕ → List Four
state_records [] w a = []
state_records (s ∷ ss) w a = state_record s w a ∷ state_records ss (w + length s.whens) (a + length s.actions)

-- the bytes of a list of state records
abbrev pub state_bytes : List Four → List ℕ
state_bytes rs = fours rs

-- the six bodies of a class: child classes
abbrev pub class_records : Class → List Four
class_records c = map number c.children

-- when clauses (W)
abbrev pub when_records : Class → List Four
when_records c = placed state_guards state_whens c.states 0

-- guard records (G)
abbrev pub all_guards : Class → List Eight
all_guards c = gathered state_guards c.states

-- action clauses (A)
abbrev pub action_records : Class → List Four
action_records c = placed state_guards state_actions c.states 0

-- statements (T)
abbrev pub statement_records : Class → List Eight
statement_records c = placed state_guards state_statements c.states 0

-- the contents of bodies of which the first starts at a byte: for each its start and its length
unfoldable pub contents : ℕ → List (List ℕ) → List Four
contents at [] = []
contents at (b ∷ bs) = pair at (length b) ∷ contents (at + length b) bs

-- six bodies behind their contents
abbrev pub laid_out : List (List ℕ) → List ℕ
laid_out bs = fours (contents 24 bs) ++ gathered (λ b. b) bs

-- the sheet of a class
unfoldable pub sheet_of : Class → List ℕ
sheet_of c =
    laid_out (fours (class_records c) ∷ state_bytes (state_records c.states 0 0) ∷ fours (when_records c) ∷ eights (all_guards c)
    ∷ fours (action_records c) ∷ eights (statement_records c) ∷ [])
