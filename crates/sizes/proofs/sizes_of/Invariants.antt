-- The loop's invariant, `Counting`: what is counted and what is left come to what is counted of all; its measure is what is left of the text.
-- Assumes nothing.
use Prim.Native.Nat.{◌-◌}
use lib.ListN.{length}
use Rattle.sizes.proofs.Turns.{Counting}
use Rattle.sizes.proofs.sizes_of.Given as goal

abbrev pub invariant-loop-word : goal.invariant-loop-word
invariant-loop-word l = Counting l.text l.n l.acting l.ifs l.at

abbrev pub decreases-loop-word : goal.decreases-loop-word
decreases-loop-word l = length l.text - l.at
