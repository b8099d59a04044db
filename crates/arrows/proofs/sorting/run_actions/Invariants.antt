-- `run_actions`: the action clauses before a are run.
-- Assumes nothing.
use Prim.Native.Nat.{◌≤◌}
use Rattle.arrows.specs.Sorting.{RanAll}
use Rattle.arrows.proofs.sorting.run_actions.Given as goal

abbrev pub invariant-loop-a : goal.invariant-loop-a
invariant-loop-a l = ((l.first ≤ l.a) × (l.a ≤ l.last)) × RanAll l.words l.statements l.froms l.first l.a l.q l.initial.table l.table
