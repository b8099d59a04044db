-- The words of a state, its when clauses and its action clauses, one behind the other.
-- Assumes nothing.
use Rattle.model.specs.Words.{listed}
use Rattle.grammar.specs.Words.{spelled}
use Rattle.classtext.proofs.ClassLaws.{state_puts}
use Rattle.classtext.proofs.put_state.Goals as goal

pub returns : goal.returns
unfolding listed spelled
returns c = state_puts _ _ _ _ c.put_indent-a.ensures c.put_bytes-b.ensures c.put_name-c.ensures c.put_bytes-d.ensures c.put_whens-e.ensures c.put_actions.ensures
