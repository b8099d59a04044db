-- The string, and what is behind it.
-- Assumes nothing.
use Rattle.std.proofs.Common.{rules}
use Rattle.asking.specs.Asking.{list_answer}
use Rattle.asking.proofs.ask_list.Goals as goal

pub returns : goal.returns
unfolding list_answer
returns c = c.with_string.ensures _ (λ s g o r t m e. search rules)
