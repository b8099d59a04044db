-- The string, and what is behind it.
-- Assumes nothing.
use Rattle.std.proofs.Common.{rules}
use Rattle.askread.specs.AskRead.{buffer_answer}
use Rattle.askread.proofs.ask_buffers.Goals as goal

pub returns : goal.returns
unfolding buffer_answer
returns c = c.with_string.ensures _ (λ s g o r t m e. search rules)
