use mathlib.Core.Path.{refl}
use Rattle.steps.specs.Opening.{nested_after}
use Rattle.steps.proofs.Going.{behind_is}
use Rattle.steps.proofs.behind.Goals as goal

pub returns : goal.returns
unfolding nested_after
returns c = behind_is _ _ _ _ _ c.count.ensures refl c.count-2.ensures
