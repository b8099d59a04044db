-- The string, and what is behind it.
-- Assumes nothing.
use Rattle.std.proofs.Common.{rules}
use Rattle.asking.specs.Asking.{fields_answer}
use Rattle.asking.proofs.ask_fields.Goals as goal

pub returns : goal.returns
unfolding fields_answer
returns c = c.with_string.ensures _ (λ s g o r t m e. search rules)
