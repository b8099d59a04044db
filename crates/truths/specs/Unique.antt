-- The promises of the public functions of this floor leave one answer, and one content of a lent table.
-- Assumes nothing.
use Rattle.std.specs.Prelude.{ℕ, List}
use Rattle.model.specs.Tree.{Child}
use Rattle.model.specs.Unique.{LeavesOne}
use Rattle.truths.specs.Plans.{Planned}
use Rattle.truths.specs.Words.{Filled}

pub record Unique : Type 0 where
  pub planning : (gs : List ℕ) (xs : List Child) → LeavesOne (Planned gs xs)
  pub filling : (n : ℕ) (kinds sizes masks lows : List ℕ) (base : ℕ) (before : List ℕ) → LeavesOne (Filled 0 n kinds sizes masks lows base before)
