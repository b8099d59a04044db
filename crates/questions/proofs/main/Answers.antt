-- Before the first turn nothing is taken; the zeros of the buffers are not looked into.
-- Assumes nothing.
use Rattle.std.proofs.Common.{refl, List, ℕ}
use native.Mathlib.Omega.{arith}
use Rattle.questions.specs.Inputs.{Inside}
use Rattle.questions.proofs.main.Goals as goal

nothing_taken : (chunk line : List ℕ) → Inside (record { at = 0; end = 0; waiting = 0 }) chunk line
nothing_taken chunk line = record { ahead = omega arith; taken = (omega arith, refl); waiting = (omega arith, refl) }

pub loop-init : goal.loop-init
loop-init c = nothing_taken _ _
