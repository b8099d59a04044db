-- `round`: the next level of the states before q, and the lanes that are in any of them.
-- Assumes nothing.
use Prim.Native.Nat.{◌≤◌}
use mathlib.Core.Path.{◌≡◌}
use lib.ListN.{length}
use Rattle.arrows.specs.Levels.{Rounds}
use Rattle.arrows.proofs.levels.round.Given as goal

abbrev pub invariant-loop-q : goal.invariant-loop-q
invariant-loop-q l = ((l.q ≤ l.s) × (length l.next ≡ 32)) × Rounds l.s l.table l.level l.q l.next l.all
