-- The promises of the public functions of this floor leave one answer, and one content of the lent table, where the tables are those of some
-- guards, children and parts.
-- Assumes nothing.
use Rattle.std.specs.Prelude.{ℕ, List}
use Rattle.model.specs.Tree.{Child, Part}
use Rattle.model.specs.Unique.{LeavesOne}
use Rattle.arrows.specs.Sorting.{TablesFor, Sorted}
use Rattle.arrows.specs.Levels.{LevelsAre}

pub record Unique : Type 0 where
  pub sorting : (places aims firsts actions froms statements : List ℕ) (s : ℕ) (words : List ℕ) (counted : ℕ) (gs : List ℕ) (ks : ℕ → List Child) (p : ℕ → Part)
      → TablesFor aims firsts actions froms statements s words gs ks p → LeavesOne (Sorted places aims firsts actions froms statements s s words counted)
  pub counting : (s : ℕ) (table : List ℕ) (counted : ℕ) → LeavesOne (LevelsAre s table counted)
