-- The promises of the public functions of this floor leave one answer. Those that are equations do so by `Equations` of `model`.
-- Assumes nothing.
use Rattle.std.specs.Prelude.{ℕ, Bool, List}
use Rattle.model.specs.Tree.{Child}
use Rattle.model.specs.Unique.{LeavesOne}
use Rattle.lanes.specs.Lanes.{Lanes}
use Rattle.lanes.specs.Counting.{Counts}

pub record Unique : Type 0 where
  -- a word by its lanes: `fixed_word`, `low_word`, `counted_lanes`
  pub words : (f : ℕ → Bool) → LeavesOne (λ (w : ℕ). Lanes w f)
  pub present : (xs : List Child) (present : ℕ) → LeavesOne (Counts xs present)
