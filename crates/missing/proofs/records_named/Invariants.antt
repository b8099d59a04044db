-- `records_named` meets its contract. The loop's invariant: the bits of the first i records have names.
-- Assumes nothing.
use Prim.Native.Nat.{◌+◌}
use mathlib.Core.Path.{◌≡◌}
use mathlib.Core.Bool.{true}
use Rattle.model.specs.Words.{each}
use Rattle.records.specs.GuardRecords.{guard_record}
use Rattle.missing.specs.Tallies.{record_named}
use Rattle.missing.proofs.records_named.Given as goal

abbrev pub invariant-loop-i : goal.invariant-loop-i
invariant-loop-i l = each l.i (λ j. record_named l.names (guard_record l.g (l.first + j))) ≡ true
