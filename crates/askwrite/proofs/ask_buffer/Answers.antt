-- The string, and the question.
-- Assumes nothing.
use Rattle.std.proofs.Common.{rules}
use Rattle.askwrite.specs.AskWrite.{buffer_answer}
use Rattle.askwrite.proofs.ask_buffer.Goals as goal

pub returns : goal.returns
unfolding buffer_answer
returns c = c.with_string.ensures _ (λ s g o r t m e. search rules)
