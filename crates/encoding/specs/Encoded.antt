-- What is proved of the sheet of a class.
-- Assumes nothing.
use Rattle.std.specs.Prelude.{◌+◌, ◌*◌, ◌≡◌, true, length}
use Rattle.model.specs.Words.{Bytes}
use Rattle.model.specs.Tree.{Class}
use Rattle.sheet.specs.Rules.{Accepted}
use Rattle.sheet.specs.Reading.{class_of}
use Rattle.encoding.specs.Encoding.{guard_records, gathered, when_records, all_guards, action_records, statement_records, sheet_of}
use Rattle.encoding.specs.Limits.{guards_of, actions_of, within_limits}
use Rattle.encoding.specs.Numbers.{Numbers}
use Rattle.encoding.specs.Within.{Within}

-- of a class that a sheet can stand for
pub record Encoded (c : Class) : Type 0 where
  -- the judge accepts its sheet
  pub accepted : Accepted (sheet_of c)
  -- which stands for it
  pub stands : class_of (sheet_of c) ≡ c
  -- and is a byte string
  pub bytes : Bytes (sheet_of c)
  -- no other class has this sheet
  pub alone : (d : Class) → Within d → sheet_of c ≡ sheet_of d → c ≡ d

-- of every class
pub record Laid (c : Class) : Type 0 where
  -- the length of its sheet
  pub long : length (sheet_of c)
      ≡ 24 + length c.children * 4 + length c.states * 4 + length (when_records c) * 4 + length (all_guards c) * 8 + length (action_records c) * 4
      + length (statement_records c) * 8
  -- one record for each of its when clauses, and for each of its action clauses
  pub whens : length (when_records c) ≡ length (gathered (λ s. s.whens) c.states)
  pub actions : length (action_records c) ≡ length (actions_of c)
  -- the guard records are those of its guards, each written out, in the class's order
  pub in_order : all_guards c ≡ gathered guard_records (guards_of c)
  -- a sheet can stand for it exactly if its numbers are right and the test of the limits is true
  pub within : within_limits c ≡ true → Numbers c → Within c
  pub within_only : Within c → (within_limits c ≡ true) × Numbers c
