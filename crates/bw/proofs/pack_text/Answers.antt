-- `pack_text`: a refusal is its own word, and the length of what is written has its word.
-- Assumes nothing.
use Prim.Native.Nat.{◌*◌, ◌%◌}
use mathlib.Core.Path.{◌≡◌, refl, ◌∙◌}
use Rattle.std.proofs.Common.{rules}
use Rattle.model.specs.Answers.{write_numbers}
use Rattle.bw.specs.Packed.{word, kinds_of_text}
use Rattle.bw.proofs.PackedLaws.{word_refused, word_written, word_either}
use Rattle.bw.proofs.pack_text.Goals as goal

pub returns : goal.returns
returns c = word_either _ _ (λ a. c.map_or_else.result ≡ word kinds_of_text (write_numbers a)) c.args.answer c.map_or_else.ensures (λ x h. let e : c.map_or_else.result ≡ x % 4294967296 * 4294967296 = search rules in e ∙ word_written x _ refl) (λ x h. word_refused _ x _ (search rules) _ refl)
