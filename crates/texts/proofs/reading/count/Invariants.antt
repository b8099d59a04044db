-- The invariant: what was counted and what is left are all.
-- Assumes nothing.
use Prim.Native.Nat.{◌+◌, ◌≤◌}
use mathlib.Core.Path.{◌≡◌}
use lib.ListN.{drop}
use Rattle.texts.specs.Fields.{occurs}
use Rattle.texts.proofs.reading.count.Given as goal

abbrev pub invariant-loop-x : goal.invariant-loop-x
invariant-loop-x l = (l.n ≤ l.x-index) × (l.n + occurs l.byte (drop l.x-index l.bytes) ≡ occurs l.byte l.bytes)
