-- `atoms::number` meets its contract.
-- Assumes nothing.
use mathlib.Core.Path.{sym, ◌∙◌}
use Rattle.atoms.proofs.AtomSteps.{found_at, found_nowhere}
use Rattle.atoms.proofs.number.Goals as goal

pub returns-in-Some : goal.returns-in-Some
returns-in-Some c = found_at _ _ _ (sym c.number_in-found.ensures ∙ c.in-Some.is)

pub returns-in-None : goal.returns-in-None
returns-in-None c = found_nowhere _ _ _ _ (sym c.number_in-found.ensures ∙ c.in-None.is) c.record_count.ensures.is
