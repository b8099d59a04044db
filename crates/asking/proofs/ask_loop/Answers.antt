-- The number, the string, the question.
-- Assumes nothing.
use Rattle.std.proofs.Common.{rules}
use Rattle.asking.specs.Asking.{loop_answer}
use Rattle.asking.proofs.AskingLaws.{number_wrong, number_read}
use Rattle.asking.proofs.ask_loop.Goals as goal

pub returns-in_default : goal.returns-in_default
unfolding loop_answer
returns-in_default c = number_wrong _ _ _ _ _ _ c.first_field.ensures c.in_default.ensures c.bad_line.ensures

pub returns : goal.returns
unfolding loop_answer
returns c = number_read _ _ _ _ _ _ c.first_field.ensures _ c.in-Some.ensures _ c.other_fields.ensures (c.with_string.ensures _ (λ s g o r t m e. search rules))
