-- The records of the bodies: counts, when clauses, action clauses. Clauses stand in state order.
-- Assumes nothing.
use Rattle.std.specs.Prelude.{ℕ, ◌+◌, ◌*◌, List, [], ◌∷◌, get_or, take, drop}
use Rattle.std.proofs.Math.Option.{Option}
use Rattle.model.specs.Words.{total}
use Rattle.model.specs.Tree.{Referrer, move_to, run, stay, Part}
use Rattle.records.specs.Bytes.{byte, u16, u32, records, records_from, in_eights}
use Rattle.bodies.specs.StatementRecords.{part_at}

-- the count that record i, of 4 bytes, holds at an offset, and the sum over the first n records
abbrev pub count_at : List ℕ → ℕ → ℕ → ℕ
count_at b offset i = u16 b (i * 4 + offset)

unfoldable pub count_sum : List ℕ → ℕ → ℕ → ℕ
count_sum b offset n = total n (count_at b offset)

-- child class i: its name set
abbrev pub name_set : List ℕ → ℕ → ℕ
name_set classes i = u32 classes (i * 4)

-- state q: the number of its when clauses and of its action clauses, and the first of each
abbrev pub when_count : List ℕ → ℕ → ℕ
when_count states q = count_at states 0 q

abbrev pub action_count : List ℕ → ℕ → ℕ
action_count states q = count_at states 2 q

abbrev pub first_when : List ℕ → ℕ → ℕ
first_when states q = count_sum states 0 q

abbrev pub first_action : List ℕ → ℕ → ℕ
first_action states q = count_sum states 2 q

-- when clause w: the place of its guard, its referrer, its target
abbrev pub guard_place : List ℕ → ℕ → ℕ
guard_place whens w = u16 whens (w * 4)

abbrev pub referrer_number : List ℕ → ℕ → ℕ
referrer_number whens w = byte whens (w * 4 + 2)

abbrev pub target : List ℕ → ℕ → ℕ
target whens w = byte whens (w * 4 + 3)

-- 0 MOVE_TO, 1 DO, 2 STAY
unfoldable pub referrer_of : ℕ → ℕ → Referrer
referrer_of number t = get_or (move_to t ∷ run t ∷ []) number stay

-- action clause a: its command, the zero byte, the number of its statement records, nested ones counted, and the first of them
abbrev pub action_command : List ℕ → ℕ → ℕ
action_command actions a = byte actions (a * 4)

abbrev pub action_zero : List ℕ → ℕ → ℕ
action_zero actions a = byte actions (a * 4 + 1)

abbrev pub statement_count : List ℕ → ℕ → ℕ
statement_count actions a = count_at actions 2 a

abbrev pub first_statement : List ℕ → ℕ → ℕ
first_statement actions a = count_sum actions 2 a

-- its statements: their bytes, and their records
abbrev pub statement_bytes : List ℕ → List ℕ → ℕ → List ℕ
statement_bytes actions statements a = records_from (first_statement actions a) (statement_count actions a) statements

unfoldable pub statements_of : List ℕ → List ℕ → ℕ → List (List ℕ)
statements_of actions statements a = take (statement_count actions a) (drop (first_statement actions a) (records (in_eights statements) statements))

-- ifs at most 8 deep; a top if is 1 deep
unfoldable pub body_of : ℕ → ℕ → List ℕ → List ℕ → List ℕ → ℕ → Option Part
body_of K S guards actions statements a = part_at 8 K S guards (statements_of actions statements a)
