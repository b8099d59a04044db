-- `present_ok`: each bit so far is not set, or below K.
-- Assumes nothing.
use Prim.Native.Nat.{◌≤◌}
use mathlib.Core.Path.{◌≡◌}
use mathlib.Core.Bool.{true}
use Rattle.model.specs.Words.{each}
use Rattle.loops.proofs.PresentLaws.{bit_right}
use Rattle.loops.proofs.asked.present_ok.Given as goal

abbrev pub invariant-loop-i : goal.invariant-loop-i
invariant-loop-i l = (l.i ≤ 8) × (each l.i (bit_right l.present l.classes) ≡ true)
