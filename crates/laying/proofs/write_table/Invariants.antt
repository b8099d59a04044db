use lib.ListN.{length}
use Rattle.laying.proofs.LayingLaws.{Tabling}
use Prim.Native.Nat.{◌-◌}
use Rattle.laying.proofs.write_table.Given as goal

abbrev pub invariant-loop-start : goal.invariant-loop-start
invariant-loop-start l = Tabling l.text l.initial.out l.out l.end l.at

abbrev pub decreases-loop-start : goal.decreases-loop-start
decreases-loop-start l = length l.text - l.at
