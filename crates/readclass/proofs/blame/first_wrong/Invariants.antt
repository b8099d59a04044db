use Prim.Native.Nat.{◌-◌, ◌≤◌}
use lib.ListN.{length}
use Rattle.readclass.proofs.blame.first_wrong.Given as goal

abbrev pub invariant-loop-held : goal.invariant-loop-held
invariant-loop-held l = l.scope.states ≤ l.at

abbrev pub decreases-loop-held : goal.decreases-loop-held
decreases-loop-held l = length l.text - l.at
