-- The string, and what is behind it.
-- Assumes nothing.
use Rattle.std.proofs.Common.{rules}
use Rattle.askwrite.specs.AskWrite.{own_states_answer}
use Rattle.askwrite.proofs.ask_own_states.Goals as goal

pub returns : goal.returns
unfolding own_states_answer
returns c = c.with_string.ensures _ (λ s g o r t m e. search rules)
