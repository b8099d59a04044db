-- The promises of the public functions of this floor leave one answer, and one content of a lent buffer.
-- Assumes nothing.
use Rattle.std.specs.Prelude.{ℕ, ◌≡◌, List}
use Rattle.model.specs.Answers.{PhaseAnswer}
use Rattle.model.specs.Node as Tree
use Rattle.phases.specs.Phases.{TurnIs, Phases}
use Rattle.phases.specs.declared.Turned.{Turned}

pub record Unique : Type 0 where
  pub turning : (t : Tree.Turn) (before x y : List ℕ) (at : ℕ) (r s : Turned) → TurnIs t before x at r → TurnIs t before y at s → (r ≡ s) × (x ≡ y)
  pub phasing : (b list : List ℕ) (q : ℕ) (before x y : List ℕ) (r s : PhaseAnswer) → Phases b list q before x r → Phases b list q before y s → (r ≡ s) × (x ≡ y)
