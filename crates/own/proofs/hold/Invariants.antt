-- `hold` meets its contract. The loop's invariant, `Filling`: the table holds the first names, and the others stand from `rest` on.
-- Assumes nothing.
use Prim.Native.Nat.{◌/◌}
use mathlib.Core.Path.{◌≡◌}
use lib.ListN.{length}
use Rattle.own.specs.Held.{Filling}
use Rattle.own.proofs.hold.Given as goal

abbrev pub invariant-loop-count : goal.invariant-loop-count
invariant-loop-count l =
    (length l.table ≡ length l.initial.table) × (l.room ≡ length l.table / 2) × Filling l.text l.table l.kind l.stop l.at l.count l.rest
