-- The invariant: the sum is that of the counts of the first i records. Each turn adds one count.
-- Assumes nothing.
use Prim.Native.Nat.{◌≤◌, ◌*◌}
use mathlib.Core.Path.{◌≡◌}
use Rattle.bodies.specs.Clauses.{count_sum}
use Rattle.bodies.proofs.clauses.count_sum.Given as goal

abbrev pub invariant-loop-i : goal.invariant-loop-i
invariant-loop-i l = (l.sum ≡ count_sum l.b l.offset l.i) × (l.sum ≤ l.i * 65536)
