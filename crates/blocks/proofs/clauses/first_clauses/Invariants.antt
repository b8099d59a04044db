-- `first_clauses`: the firsts of the states before q.
-- Assumes nothing.
use Prim.Native.Nat.{◌≤◌}
use Rattle.blocks.proofs.ClauseLaws.{FirstsTo}
use Rattle.blocks.proofs.clauses.first_clauses.Given as goal

abbrev pub invariant-loop-q : goal.invariant-loop-q
invariant-loop-q l = (l.s ≤ 32) × FirstsTo l.states l.offset l.firsts l.q
