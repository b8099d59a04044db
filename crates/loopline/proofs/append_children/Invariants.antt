-- The invariant: the first i children are appended. A turn appends one more.
-- Assumes nothing.
use Prim.Native.Nat.{◌*◌}
use mathlib.Core.Path.{◌≡◌}
use lib.ListN.{length, take}
use Rattle.texts.specs.Texts.{Appended}
use Rattle.lines.specs.Lines.{child_fields}
use Rattle.loopline.proofs.append_children.Given as goal

abbrev pub invariant-loop-i : goal.invariant-loop-i
invariant-loop-i l = (length l.out ≡ length l.fn.out) × Appended l.fn.out l.out l.at (child_fields (take (2 * l.i) l.list)) l.end
