-- What the judge asks of a list of statement records, and of one statement's record with its parts behind it; and what such a list reads as.
-- Assumes nothing.
use Rattle.std.specs.Prelude.{ℕ, zero, suc, ◌/◌, ◌-◌, ◌≡◌, Bool, List, length, take, drop}
use Rattle.std.proofs.Math.Option.{Option, none, some}
use Rattle.model.specs.Words.{is_some}
use Rattle.model.specs.Tree.{Part}
use Rattle.records.specs.Bytes.{records}
use Rattle.bodies.specs.StatementRecords.{statement_from, part_at}

-- it reads as a part, with ifs at most d deep
unfoldable pub part_right : ℕ → ℕ → ℕ → List ℕ → List ℕ → Bool
part_right d K S gs part = is_some (part_at d K S gs (records (length part / 8) part))

-- the reader of an if's parts at a depth: none at depth 0
unfoldable pub parts_of : ℕ → ℕ → ℕ → List ℕ → List (List ℕ) → Option Part
parts_of zero K S gs rs = none
parts_of (suc d) K S gs rs = part_at d K S gs rs

-- it reads as a statement
unfoldable pub statement_right : ℕ → ℕ → ℕ → List ℕ → List ℕ → Bool
statement_right d K S gs s = is_some (statement_from K S gs (parts_of d K S gs) (take 8 s) (records (length s / 8 - 1) (drop 8 s)))

-- a list reads as the part p, at some depth, for some numbers of child classes and own states
pub record Reads (gs part : List ℕ) (p : Part) : Type 0 where
  pub depth : ℕ
  pub classes : ℕ
  pub states : ℕ
  pub reads : part_at depth classes states gs (records (length part / 8) part) ≡ some p
