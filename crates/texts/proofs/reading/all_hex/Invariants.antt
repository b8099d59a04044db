-- The invariant: what is left has the answer. A turn looks at one byte.
-- Assumes nothing.
use mathlib.Core.Path.{◌≡◌}
use lib.ListN.{drop}
use Rattle.texts.specs.Fields.{hex_digits}
use Rattle.texts.proofs.reading.all_hex.Given as goal

abbrev pub invariant-loop-x : goal.invariant-loop-x
invariant-loop-x l = hex_digits l.field ≡ hex_digits (drop l.x-index l.field)
