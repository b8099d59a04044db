-- The first line of the text, and the states.
-- Assumes nothing.
use native.Mathlib.Omega.{arith}
use Rattle.model.specs.Words.{listed}
use Rattle.grammar.specs.Words.{spelled}
use Rattle.classtext.proofs.ClassLaws.{text_puts}
use Rattle.classtext.proofs.put_text.Goals as goal

pub returns : goal.returns
unfolding listed spelled
returns c = text_puts _ _ (omega arith) c.put_bytes-a.ensures c.put_characters-b.ensures c.put_bytes-c.ensures c.put_states.ensures
