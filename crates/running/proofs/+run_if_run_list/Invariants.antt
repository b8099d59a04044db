-- With each call the bytes get fewer, but for the call of `run_if`, whose measure is one less on the same bytes.
use Prim.Native.Nat.{◌+◌, ◌*◌}
use lib.ListN.{length}
use Rattle.running.proofs.+run_if_run_list.Given as goal

abbrev pub decreases-run_if : goal.decreases-run_if
decreases-run_if l = 2 * length l.part.now

abbrev pub decreases-run_list : goal.decreases-run_list
decreases-run_list l = 2 * length l.part.now + 1
