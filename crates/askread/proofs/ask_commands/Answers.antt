-- The string, and what is behind it.
-- Assumes nothing.
use Rattle.std.proofs.Common.{rules}
use Rattle.askread.specs.AskRead.{commands_answer}
use Rattle.askread.proofs.ask_commands.Goals as goal

pub returns : goal.returns
unfolding commands_answer
returns c = c.with_string.ensures _ (λ s g o r t m e. search rules)
