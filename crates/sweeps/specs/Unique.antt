-- The promise of the public function of this floor leaves one answer and one content of the lent table, where the words are those of some
-- guards and children and the list reads as a part.
-- Assumes nothing.
use Rattle.std.specs.Prelude.{ℕ, ◌^◌, ◌<◌, List}
use Rattle.model.specs.Tree.{Child, Part}
use Rattle.model.specs.Unique.{LeavesOne}
use Rattle.bodies.specs.PartChecks.{Reads}
use Rattle.sweeps.specs.Sweeps.{Narrow, WordsFor, SweepsPart}

-- what a sweep leaves: the table, and the lanes
pub record Left : Type 0 where
  pub table : List ℕ
  pub lanes : ℕ

pub record Unique : Type 0 where
  pub sweeping : (words part : List ℕ) (q mask : ℕ) (before gs : List ℕ) (ks : ℕ → List Child) (p : Part) → q < 32 → Narrow before → WordsFor gs ks words → Reads gs part p
      → LeavesOne (λ (r : Left). SweepsPart words part q mask before r.table r.lanes × (r.lanes < 2 ^ 64))
