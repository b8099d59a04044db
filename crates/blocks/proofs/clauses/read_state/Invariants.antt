-- `read_state`: the clauses before w are read.
-- Assumes nothing.
use Prim.Native.Nat.{◌≤◌}
use Rattle.blocks.specs.ClauseTables.{ReadState}
use Rattle.blocks.proofs.clauses.read_state.Given as goal

abbrev pub invariant-loop-w : goal.invariant-loop-w
invariant-loop-w l = ((l.first ≤ l.w) × (l.w ≤ l.last)) × ReadState l.whens l.first l.w l.q l.action l.initial.places l.initial.aims l.places l.aims
