-- The string, and the question.
-- Assumes nothing.
use Rattle.std.proofs.Common.{rules}
use Rattle.asking.specs.Asking.{sending_answer}
use Rattle.asking.proofs.ask_sending.Goals as goal

pub returns : goal.returns
unfolding sending_answer
returns c = c.with_string.ensures _ (λ s g o r t m e. search rules)
