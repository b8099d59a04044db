-- `sweep_list` runs one statement after the other: who runs the rest of the list on the lanes that are left has run all, and each turn the rest
-- gets shorter. `sweep_if` runs each part on the lanes that its guard chooses. With each call the bytes get fewer, but for the call of
-- `sweep_if`, whose measure is one less on the same bytes.
-- Assumes nothing.
use Prim.Native.Nat.{◌+◌, ◌*◌}
use lib.ListN.{length}
use Rattle.sweeps.proofs.SweepLaws.{Sweeping}
use Rattle.sweeps.proofs.+sweep_if_sweep_list.Given as goal

abbrev pub decreases-sweep_if : goal.decreases-sweep_if
decreases-sweep_if l = 2 * length l.part.now

abbrev pub decreases-sweep_list : goal.decreases-sweep_list
decreases-sweep_list l = 2 * length l.part.now + 1

abbrev pub invariant-sweep_list-loop-left : goal.invariant-sweep_list-loop-left
invariant-sweep_list-loop-left l = Sweeping l.words l.part l.q l.mask l.initial.table l.rest l.table l.left

abbrev pub decreases-sweep_list-loop-left : goal.decreases-sweep_list-loop-left
decreases-sweep_list-loop-left l = length l.rest
