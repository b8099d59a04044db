-- `plan_guards`: from the last record down, each is planned by those behind it.
-- Assumes nothing.
use Rattle.configurations.specs.Cells.{cells_of}
use Rattle.truths.proofs.PlanLaws.{Planning}
use Rattle.truths.proofs.plans.plan_guards.Given as goal

abbrev pub invariant-loop-i : goal.invariant-loop-i
invariant-loop-i l = Planning l.g (cells_of l.cells) l.count l.kinds l.sizes l.masks l.lows l.i
