-- `bw_command` gives both words of the answer, and its buffer.
-- Assumes nothing.
use Rattle.bw.proofs.PackedLaws.{returned_both}
use Rattle.bw.proofs.bw_command.Goals as goal

pub returns : goal.returns
returns c = returned_both _ _ _ _ _ c.command.result _ _ _ _ c.pack_command.ensures c.command.ensures
