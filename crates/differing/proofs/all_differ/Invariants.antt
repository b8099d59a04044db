-- `all_differ` meets its contract. The loop's invariant: no name stands twice where none of those from a place on does.
-- Assumes nothing.
use Prim.Native.Nat.{◌-◌}
use mathlib.Core.Path.{◌≡◌}
use lib.ListN.{length}
use Rattle.naming.specs.NameLists.{none_twice}
use Rattle.own.specs.Ahead.{names_from}
use Rattle.differing.proofs.all_differ.Given as goal

abbrev pub invariant-loop-table : goal.invariant-loop-table
invariant-loop-table l =
    (length l.table ≡ 16384) × (none_twice (names_from l.text l.kind l.stop l.at) ≡ none_twice (names_from l.text l.kind l.stop l.from))

abbrev pub decreases-loop-table : goal.decreases-loop-table
decreases-loop-table l = length l.text - l.from
