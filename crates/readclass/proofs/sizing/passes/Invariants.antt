use Prim.Native.Nat.{◌-◌}
use lib.ListN.{length}
use Rattle.readclass.proofs.sizing.passes.Given as goal

abbrev pub invariant-loop-limit : goal.invariant-loop-limit
invariant-loop-limit l = Unit {0}

abbrev pub decreases-loop-limit : goal.decreases-loop-limit
decreases-loop-limit l = length l.text - l.at
