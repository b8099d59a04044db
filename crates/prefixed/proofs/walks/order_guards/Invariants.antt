-- `prefixed::walks::order_guards` meets its contract. The loop's invariant is `Underway`; the measure is what is left of the text.
-- Assumes nothing.
use Prim.Native.Nat.{◌-◌}
use lib.ListN.{length}
use Rattle.prefixed.proofs.Underway.{Underway}
use Rattle.prefixed.proofs.walks.order_guards.Given as goal

abbrev pub invariant-loop-keys : goal.invariant-loop-keys
invariant-loop-keys l = Underway l.text l.lists.names.now l.lists.classes.now (length l.initial.bytes) l.bytes l.keys l.stand l.at

abbrev pub decreases-loop-keys : goal.decreases-loop-keys
decreases-loop-keys l = length l.text - l.at
