-- `bits_named` meets its contract. The loop's invariant: every bit below i has a name.
-- Assumes nothing.
use Prim.Native.Nat.{◌≤◌}
use mathlib.Core.Path.{◌≡◌}
use mathlib.Core.Bool.{true}
use Rattle.model.specs.Words.{each}
use Rattle.lists.proofs.RecordLaws.{bit_named}
use Rattle.lent.proofs.bits_named.Given as goal

abbrev pub invariant-loop-i : goal.invariant-loop-i
invariant-loop-i l = (l.i ≤ 32) × (each l.i (bit_named l.names l.set) ≡ true)
