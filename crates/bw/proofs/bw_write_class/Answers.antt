-- `bw_write_class` gives the word of the answer, and its buffer.
-- Assumes nothing.
use Rattle.bw.proofs.PackedLaws.{returned}
use Rattle.bw.proofs.bw_write_class.Goals as goal

pub returns : goal.returns
returns c = returned _ c.write_class.result _ _ c.pack_text.ensures c.write_class.ensures
