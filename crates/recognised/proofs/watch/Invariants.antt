use Prim.Native.Nat.{◌-◌}
use Rattle.recognised.proofs.Watches.{Watching}
use Rattle.recognised.proofs.watch.Given as goal

abbrev pub invariant-loop-at : goal.invariant-loop-at
invariant-loop-at l = Watching l.text l.from l.to l.ifs l.at l.level l.seen

abbrev pub decreases-loop-at : goal.decreases-loop-at
decreases-loop-at l = l.to - l.at
