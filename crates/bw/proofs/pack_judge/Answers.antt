-- `pack_judge`: a refusal is its own word.
-- Assumes nothing.
use mathlib.Core.Path.{◌≡◌, refl, ◌∙◌}
use Rattle.std.proofs.Common.{rules}
use Rattle.model.specs.Answers.{judge_numbers}
use Rattle.bw.specs.Packed.{word, kinds_of_judge}
use Rattle.bw.proofs.PackedLaws.{word_refused, word_accepted, word_either}
use Rattle.bw.proofs.pack_judge.Goals as goal

pub returns : goal.returns
returns c = word_either _ _ (λ a. c.map_or_else.result ≡ word kinds_of_judge (judge_numbers a)) c.args.answer c.map_or_else.ensures (λ x h. let e : c.map_or_else.result ≡ 0 = search rules in e ∙ word_accepted _ refl) (λ x h. word_refused _ x _ (search rules) _ refl)
