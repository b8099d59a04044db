-- The loop's invariant, `Counting`: the part from the start on is the part from here on, n of whose statements are passed.
-- Assumes nothing.
use Prim.Native.Nat.{◌-◌}
use lib.ListN.{length}
use Rattle.statements.proofs.LookingLaws.{Counting}
use Rattle.statements.proofs.part_ahead.Given as goal

abbrev pub invariant-loop-depth : goal.invariant-loop-depth
invariant-loop-depth l = Counting l.text l.at l.here l.depth l.n

abbrev pub decreases-loop-depth : goal.decreases-loop-depth
decreases-loop-depth l = length l.text - l.here
