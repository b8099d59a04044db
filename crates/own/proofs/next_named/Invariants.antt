-- `next_named` meets its contract. The loop's invariant, `Looking`: the names from `at` on are those from i on.
-- Assumes nothing.
use Prim.Native.Nat.{◌-◌}
use lib.ListN.{length}
use Rattle.own.proofs.NextLaws.{Looking}
use Rattle.own.proofs.next_named.Given as goal

abbrev pub invariant-loop-word : goal.invariant-loop-word
invariant-loop-word l = Looking l.text l.kind l.stop l.at l.i

abbrev pub decreases-loop-word : goal.decreases-loop-word
decreases-loop-word l = length l.text - l.i
