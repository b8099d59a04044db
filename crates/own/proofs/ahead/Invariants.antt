-- `ahead` meets its contract. The loop's invariant, `Going`: the word is looked for among the names from a place on, the first of which has the number i.
-- Assumes nothing.
use Prim.Native.Nat.{◌-◌}
use lib.ListN.{length}
use Rattle.own.proofs.LookingUp.{Going}
use Rattle.own.proofs.ahead.Given as goal

abbrev pub invariant-loop-start : goal.invariant-loop-start
invariant-loop-start l = Going l.text l.kind l.stop l.at l.word l.first l.i l.from

abbrev pub decreases-loop-start : goal.decreases-loop-start
decreases-loop-start l = length l.text - l.from
