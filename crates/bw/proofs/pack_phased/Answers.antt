-- `pack_phased`: settled, or a loop.
-- Assumes nothing.
use native.Mathlib.Omega.{arith}
use mathlib.Core.Path.{ap}
use mathlib.Core.List.{◌∷◌}
use Rattle.model.specs.Answers.{phased_values}
use Rattle.model.specs.declared.Phase.{Phase}
use Rattle.bw.proofs.PackedLaws.{word_given, word_loops}
use Rattle.bw.proofs.pack_phased.Goals as goal

pub returns-in-Settled : goal.returns-in-Settled
returns-in-Settled c = word_given _ _ _ _ c.pack_settled.ensures (ap (λ (p : Phase). 0 ∷ phased_values p) c.in-Settled.is)

pub returns-in-Loops : goal.returns-in-Loops
returns-in-Loops c = word_loops _ _ (omega arith) _ (ap phased_values c.in-Loops.is)
