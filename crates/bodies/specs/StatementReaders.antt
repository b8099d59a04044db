-- What the readers of statement records answer: the record at the front of a list, its parts, and what stands behind them.
-- Assumes nothing.
use Rattle.std.specs.Prelude.{ℕ, ◌+◌, ◌*◌, List, [], ◌∷◌, ltb, length, get_or, drop}
use Rattle.model.specs.Words.{choose}
use Rattle.records.specs.Bytes.{byte, u16, records_from}
use Rattle.records.specs.Patterns.{pattern_read}
use Rattle.bodies.specs.declared.statements.Branch.{Branch}
use Rattle.bodies.specs.declared.statements.StatementRecord.{StatementRecord}
use Rattle.bodies.specs.declared.statements.StatementRecord.TheVariants.{Do, MoveTo, If, Unknown}

-- what a record is, by its kind: 0 do, 1 move_to, 2 if
abbrev pub by_kind : List ℕ → List StatementRecord
by_kind r = Do (byte r 1) (pattern_read (byte r 2)) ∷ MoveTo (record { 0 = byte r 1 }) ∷ If (record { guard = u16 r 2; thens = u16 r 4; elses = u16 r 6 }) ∷ []

-- the record at the front of a list; unknown where there is none
unfoldable pub statement_record : List ℕ → StatementRecord
statement_record part = choose (ltb (length part) 8) (λ _. Unknown) (λ _. get_or (by_kind part) (byte part 0) Unknown)

-- how many records belong to a statement beside its own: an if's two parts
abbrev pub records_beside : StatementRecord → ℕ
records_beside (Do m p) = 0
records_beside (MoveTo t) = 0
records_beside (If b) = b.thens + b.elses
records_beside Unknown = 0

-- the then-part of the if at the front of a list follows at once, the else-part after it
abbrev pub then_part : Branch → List ℕ → List ℕ
then_part b part = records_from 1 b.thens part

abbrev pub else_part : Branch → List ℕ → List ℕ
else_part b part = records_from (1 + b.thens) b.elses part

-- what stands behind the statement at the front of a list, its parts with it
abbrev pub behind_statement : StatementRecord → List ℕ → List ℕ
behind_statement r part = drop ((1 + records_beside r) * 8) part
