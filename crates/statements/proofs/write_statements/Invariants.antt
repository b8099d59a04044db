-- The loop's invariant, `Turning`: with the statements that are left the buffer is as it is to be.
-- Assumes nothing.
use Prim.Native.Nat.{◌-◌}
use lib.ListN.{length}
use Rattle.statements.proofs.WritingLaws.{Turning}
use Rattle.statements.proofs.write_statements.Given as goal

abbrev pub invariant-loop-table : goal.invariant-loop-table
invariant-loop-table l = Turning l.text l.lists.commands.now l.lists.classes.now l.initial.out l.at l.out l.here l.on l.n l.end

abbrev pub decreases-loop-table : goal.decreases-loop-table
decreases-loop-table l = length l.text - l.here
