-- The promise of the probe leaves one answer, though it speaks of every list that the sets show.
-- Assumes nothing.
use Rattle.std.specs.Prelude.{ℕ, ◌≡◌, List, length}
use Rattle.model.specs.Unique.{LeavesOne}
use Rattle.node.specs.Probing.{Probes}

pub record Unique : Type 0 where
  pub probing : (b sets : List ℕ) → length sets ≡ 8 → (q : ℕ) → LeavesOne (Probes b sets q)
