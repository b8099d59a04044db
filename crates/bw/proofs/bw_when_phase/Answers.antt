-- `bw_when_phase` gives the word of the answer, and its buffer.
-- Assumes nothing.
use Rattle.bw.proofs.PackedLaws.{returned}
use Rattle.bw.proofs.bw_when_phase.Goals as goal

pub returns : goal.returns
returns c = returned _ c.when_phase.result _ _ c.pack_phase.ensures c.when_phase.ensures
