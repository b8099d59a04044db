-- `tabulate`: the table of the first q states, `Tabulating`; past the last state no move is made.
-- Assumes nothing.
use Prim.Native.Nat.{◌≤◌}
use Rattle.loops.proofs.TableLaws.{Tabulating}
use Rattle.loops.proofs.chase.tabulate.Given as goal

abbrev pub invariant-loop-q : goal.invariant-loop-q
invariant-loop-q l = (l.q ≤ l.q-end) × Tabulating l.sheet.bytes.now l.crew.list.now l.to l.q
