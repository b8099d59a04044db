-- `none_held` meets its contract. The loop's invariant: no name from `at` on is in the table where none from a place on is.
-- Assumes nothing.
use Prim.Native.Nat.{◌-◌}
use mathlib.Core.Path.{◌≡◌}
use lib.ListN.{length}
use Rattle.model.specs.Words.{every, listed}
use Rattle.own.specs.Ahead.{names_from}
use Rattle.own.specs.Held.{held, none_of}
use Rattle.differing.proofs.none_held.Given as goal

abbrev pub invariant-loop-start : goal.invariant-loop-start
invariant-loop-start l =
    every (none_of (listed 0 l.count (held l.text l.table))) (names_from l.text l.kind l.stop l.at) ≡ every (none_of (listed 0 l.count (held l.text l.table))) (names_from l.text l.kind l.stop l.from)

abbrev pub decreases-loop-start : goal.decreases-loop-start
decreases-loop-start l = length l.text - l.from
