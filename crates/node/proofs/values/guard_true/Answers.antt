-- `guard_true`: the truth of the evaluator's value.
-- Assumes nothing.
use mathlib.Core.Path.{sym, ◌∙◌}
use Rattle.node.proofs.ValueLaws.{truth_holds, truth_broken}
use Rattle.node.proofs.values.guard_true.Goals as goal

pub returns-in-Some : goal.returns-in-Some
returns-in-Some c = sym (truth_holds _ _ _ _ _ (sym c.guard_holds.ensures ∙ c.in-Some.is))

pub returns-in-None : goal.returns-in-None
returns-in-None c = sym (truth_broken _ _ _ (sym c.guard_holds.ensures ∙ c.in-None.is))
