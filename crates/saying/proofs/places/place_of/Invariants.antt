-- A line begins no later than the place, and there are no more lines than places up to it.
-- Assumes nothing.
use Prim.Native.Nat.{◌+◌, ◌≤◌}
use Rattle.saying.proofs.places.place_of.Given as goal

abbrev pub invariant-loop-i : goal.invariant-loop-i
invariant-loop-i l = (l.line ≤ l.i + 1) × (l.begins ≤ l.i)
