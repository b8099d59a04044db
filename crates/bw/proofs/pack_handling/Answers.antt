-- `pack_handling`: ignored, or handled.
-- Assumes nothing.
use native.Mathlib.Omega.{arith}
use mathlib.Core.Path.{ap}
use Rattle.model.specs.Answers.{handled_values}
use Rattle.bw.proofs.PackedLaws.{word_ignored, word_handled}
use Rattle.bw.proofs.pack_handling.Goals as goal

pub returns-in-Ignored : goal.returns-in-Ignored
returns-in-Ignored c = word_ignored _ (omega arith) _ (ap handled_values c.in-Ignored.is)

pub returns-in-Handled : goal.returns-in-Handled
returns-in-Handled c = word_handled _ (omega arith) _ _ (ap handled_values c.in-Handled.is)
