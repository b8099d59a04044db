-- `bw_probe` gives the word of the answer.
-- Assumes nothing.
use Rattle.bw.proofs.PackedLaws.{returned}
use Rattle.bw.proofs.bw_probe.Goals as goal

pub returns : goal.returns
returns c = returned _ c.probe.result _ _ c.pack_probe.ensures c.probe.ensures
