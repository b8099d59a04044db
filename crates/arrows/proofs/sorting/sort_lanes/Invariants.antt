-- `sort_lanes`: the words of the states before q are sorted.
-- Assumes nothing.
use Prim.Native.Nat.{◌≤◌}
use Rattle.arrows.specs.Sorting.{Sorted}
use Rattle.arrows.proofs.sorting.sort_lanes.Given as goal

abbrev pub invariant-loop-q : goal.invariant-loop-q
invariant-loop-q l = (l.q ≤ l.clauses.states) × Sorted l.clauses.places l.clauses.aims l.clauses.firsts l.clauses.actions l.clauses.froms l.statements l.clauses.states l.q l.words l.counted l.table
