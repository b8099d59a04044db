-- The invariant: with the bytes that are left the buffer is as it is to be.
-- Assumes nothing.
use Prim.Native.Nat.{◌*◌}
use mathlib.Core.Path.{◌≡◌}
use lib.ListN.{drop}
use lib.Seq.{sets}
use Rattle.texts.specs.Fields.{hex_bytes}
use Rattle.texts.proofs.reading.unpack.Given as goal

abbrev pub invariant-loop-i : goal.invariant-loop-i
invariant-loop-i l = sets l.out l.i (hex_bytes (drop (2 * l.i) l.field)) ≡ sets l.initial.out 0 (hex_bytes l.field)
