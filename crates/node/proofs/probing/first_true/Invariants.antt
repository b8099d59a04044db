-- `first_true` meets its contract. The loop's invariant, `NoneBefore`: no clause before the i-th is true.
-- Assumes nothing.
use Prim.Native.Nat.{◌-◌, ◌≤◌}
use Rattle.node.proofs.ProbeLaws.{NoneBefore}
use Rattle.node.proofs.probing.first_true.Given as goal

abbrev pub invariant-loop-i : goal.invariant-loop-i
invariant-loop-i l = (l.i ≤ l.n) × NoneBefore l.sheet.bytes.now l.sets l.first l.i

abbrev pub decreases-loop-i : goal.decreases-loop-i
decreases-loop-i l = l.n - l.i
