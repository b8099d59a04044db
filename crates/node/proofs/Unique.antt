-- The promise of this floor leaves one answer: that of a list which the sets show.
-- Assumes nothing.
use mathlib.Core.Path.{sym, ◌∙◌}
use Rattle.model.proofs.AnswerLaws.{same_probed}
use Rattle.children.proofs.Unique.{unique as shown}
use Rattle.node.specs.Unique.{Unique}

pub unique : Unique
unique = record { probing = λ b sets eight q r s g h. let (ks, c) = shown.crewing sets eight in same_probed r s (g ks c ∙ sym (h ks c)) }
