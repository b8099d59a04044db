-- `pack_phase`: a refusal is its own word, and what is given has its word.
-- Assumes nothing.
use mathlib.Core.Path.{◌≡◌, refl}
use Rattle.std.proofs.Common.{rules}
use Rattle.model.specs.Answers.{phase_numbers}
use Rattle.bw.specs.Packed.{word, kinds_of_phase}
use Rattle.bw.proofs.PackedLaws.{word_refused, word_given, word_either}
use Rattle.bw.proofs.pack_phase.Goals as goal

pub returns : goal.returns
returns c = word_either _ _ (λ a. c.map_or_else.result ≡ word kinds_of_phase (phase_numbers a)) c.args.answer c.map_or_else.ensures (λ x h. word_given _ _ _ _ (search rules) refl) (λ x h. word_refused _ x _ (search rules) _ refl)
