-- The loop's invariant, `Turning`: with the when clauses that are left the buffer is as it is to be.
-- Assumes nothing.
use Prim.Native.Nat.{◌-◌}
use lib.ListN.{length}
use Rattle.whens.proofs.WritingLaws.{Turning}
use Rattle.whens.proofs.write_whens.Given as goal

abbrev pub invariant-loop-table : goal.invariant-loop-table
invariant-loop-table l = Turning l.text l.initial.out l.at l.out l.here l.n l.end

abbrev pub decreases-loop-table : goal.decreases-loop-table
decreases-loop-table l = length l.text - l.here
