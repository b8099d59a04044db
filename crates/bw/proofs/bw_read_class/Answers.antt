-- `bw_read_class` gives the word of the answer, and both buffers.
-- Assumes nothing.
use Rattle.bw.proofs.PackedLaws.{returned_reading}
use Rattle.bw.proofs.bw_read_class.Goals as goal

pub returns : goal.returns
returns c = returned_reading _ c.read_class.result _ _ _ c.pack_reading.ensures c.read_class.ensures
