-- The string, and what is behind it.
-- Assumes nothing.
use Rattle.std.proofs.Common.{rules}
use Rattle.askwrite.specs.AskWrite.{commands_answer}
use Rattle.askwrite.proofs.ask_commands.Goals as goal

pub returns : goal.returns
unfolding commands_answer
returns c = c.with_string.ensures _ (λ s g o r t m e. search rules)
