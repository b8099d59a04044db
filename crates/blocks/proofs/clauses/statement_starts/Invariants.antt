-- `statement_starts`: the starts of the action clauses before a, and where the last of them ends.
-- Assumes nothing.
use Prim.Native.Nat.{◌≤◌}
use Rattle.blocks.proofs.ClauseLaws.{FromsTo}
use Rattle.blocks.proofs.clauses.statement_starts.Given as goal

abbrev pub invariant-loop-a : goal.invariant-loop-a
invariant-loop-a l = ((l.n ≤ 256) × (l.a ≤ l.n)) × FromsTo l.actions l.froms l.a l.from
