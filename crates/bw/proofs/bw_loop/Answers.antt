-- `bw_loop` gives the word of the answer, and its buffer.
-- Assumes nothing.
use Rattle.bw.proofs.PackedLaws.{returned}
use Rattle.bw.proofs.bw_loop.Goals as goal

pub returns : goal.returns
returns c = returned _ c.loop_question.result _ _ c.pack_loop.ensures c.loop_question.ensures
