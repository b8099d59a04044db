-- `pack_loops`: a loop, or free.
-- Assumes nothing.
use native.Mathlib.Omega.{arith}
use mathlib.Core.Path.{ap}
use Rattle.model.specs.Answers.{looped_values}
use Rattle.bw.proofs.PackedLaws.{word_loop, word_free}
use Rattle.bw.proofs.pack_loops.Goals as goal

pub returns-in-Loop : goal.returns-in-Loop
returns-in-Loop c = word_loop _ (omega arith) _ _ (omega arith) (ap looped_values c.in-Loop.is)

pub returns-in-Free : goal.returns-in-Free
returns-in-Free c = word_free _ _ (ap looped_values c.in-Free.is)
