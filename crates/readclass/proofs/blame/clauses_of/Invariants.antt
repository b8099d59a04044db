use Prim.Native.Nat.{◌-◌}
use lib.ListN.{length}
use Rattle.readclass.proofs.blame.clauses_of.Given as goal

abbrev pub invariant-loop-start : goal.invariant-loop-start
invariant-loop-start l = Unit {0}

abbrev pub decreases-loop-start : goal.decreases-loop-start
decreases-loop-start l = length l.text - l.from
