-- `atoms::set_ahead` meets its contract.
-- Assumes nothing.
use mathlib.Core.Path.{◌∙◌}
use Rattle.atoms.proofs.AtomSteps.{set_name, set_braces, set_none}
use Rattle.atoms.proofs.set_ahead.Goals as goal

pub returns-then-kind-eq-NAME : goal.returns-then-kind-eq-NAME
returns-then-kind-eq-NAME c = c.with_name.ensures ∙ set_name _ _ _ _ _ _ c.next_word-word.ensures c.if-kind-eq-NAME.true

pub returns-then-kind-eq-LEFT : goal.returns-then-kind-eq-LEFT
returns-then-kind-eq-LEFT c = c.braced.ensures ∙ set_braces _ _ _ _ _ _ c.next_word-word.ensures c.if-kind-eq-LEFT.true

pub returns : goal.returns
returns c = set_none _ _ _ _ _ _ c.next_word-word.ensures c.if-kind-eq-NAME.false c.if-kind-eq-LEFT.false
