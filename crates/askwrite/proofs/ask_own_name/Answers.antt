-- The string, and what is behind it.
-- Assumes nothing.
use Rattle.std.proofs.Common.{rules}
use Rattle.askwrite.specs.AskWrite.{own_name_answer}
use Rattle.askwrite.proofs.ask_own_name.Goals as goal

pub returns : goal.returns
unfolding own_name_answer
returns c = c.with_string.ensures _ (λ s g o r t m e. search rules)
