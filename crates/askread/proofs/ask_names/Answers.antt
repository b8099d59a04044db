-- The string, and what is behind it.
-- Assumes nothing.
use Rattle.std.proofs.Common.{rules}
use Rattle.askread.specs.AskRead.{text_answer}
use Rattle.askread.proofs.ask_names.Goals as goal

pub returns : goal.returns
unfolding text_answer
returns c = c.with_string.ensures _ (λ s g o r t m e. search rules)
