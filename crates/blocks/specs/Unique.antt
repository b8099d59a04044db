-- The promises of the public functions of this floor leave one answer.
-- Assumes nothing.
use Rattle.std.specs.Prelude.{ℕ, List}
use Rattle.model.specs.Unique.{LeavesOne}
use Rattle.blocks.specs.ClauseTables.{ClausesOf}
use Rattle.blocks.specs.Search.{Found}

pub record Unique : Type 0 where
  pub clauses : (b : List ℕ) → LeavesOne (ClausesOf b)
  pub searching : (b : List ℕ) (present : ℕ) → LeavesOne (Found b present)
