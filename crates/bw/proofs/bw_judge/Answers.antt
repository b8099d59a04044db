-- `bw_judge` gives the word of the answer.
-- Assumes nothing.
use Rattle.bw.proofs.PackedLaws.{returned}
use Rattle.bw.proofs.bw_judge.Goals as goal

pub returns : goal.returns
returns c = returned _ c.judge.result _ _ c.pack_judge.ensures c.judge.ensures
