-- The promise of the public function of this floor leaves one answer, and one content of the lent buffer.
-- Assumes nothing.
use Rattle.std.specs.Prelude.{ℕ, ◌≡◌, List}
use Rattle.model.specs.Running as Tree
use Rattle.running.specs.Running.{Does}
use Rattle.running.specs.declared.Ran.{Ran}

pub record Unique : Type 0 where
  pub running : (t : Tree.Ran) (before x y : List ℕ) (at : ℕ) (r s : Ran) → Does t before x at r → Does t before y at s → (r ≡ s) × (x ≡ y)
