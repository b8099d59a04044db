-- `pack_probed`: nothing, or a clause.
-- Assumes nothing.
use mathlib.Core.Path.{ap}
use mathlib.Core.List.{◌∷◌}
use Rattle.model.specs.Values.{probed_values}
use Rattle.model.specs.Answers.{probed_as, Probed}
use Rattle.bw.proofs.PackedLaws.{word_nothing, word_given}
use Rattle.bw.proofs.pack_probed.Goals as goal

pub returns-in-None : goal.returns-in-None
returns-in-None c = word_nothing _ (ap (λ (p : Probed). probed_values (probed_as p)) c.in-None.is)

pub returns-in-Some : goal.returns-in-Some
returns-in-Some c = word_given _ _ _ _ c.pack_clause.ensures (ap (λ (p : Probed). 0 ∷ probed_values (probed_as p)) c.in-Some.is)
