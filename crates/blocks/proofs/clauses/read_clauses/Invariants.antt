-- `read_clauses`: the clauses of the states before q are read.
-- Assumes nothing.
-- what `read_clauses` was called with
use Prim.Native.Nat.{◌≤◌}
use Rattle.sheet.specs.Contents.{body}
use Rattle.blocks.specs.ClauseTables.{WhensOf}
use Rattle.blocks.proofs.clauses.read_clauses.Given as goal

abbrev pub invariant-loop-q : goal.invariant-loop-q
invariant-loop-q l = (l.q ≤ l.states) × WhensOf (body l.sheet.bytes.now 1) l.whens l.q l.places l.aims
