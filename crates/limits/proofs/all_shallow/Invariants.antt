use Prim.Native.Nat.{◌/◌}
use lib.ListN.{length}
use Rattle.limits.proofs.ShallowLaws.{Reading}
use Prim.Native.Nat.{◌-◌}
use mathlib.Core.Path.{◌≡◌}
use Rattle.limits.proofs.all_shallow.Given as goal

abbrev pub invariant-loop-at : goal.invariant-loop-at
invariant-loop-at l = (l.count ≡ length l.guards / 8) × Reading l.guards l.at

abbrev pub decreases-loop-at : goal.decreases-loop-at
decreases-loop-at l = l.count - l.at
