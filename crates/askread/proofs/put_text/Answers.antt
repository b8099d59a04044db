-- The line has the answer's numbers and both buffers after the call.
-- Assumes nothing.
use Rattle.askread.proofs.ReadLaws.{text_put}
use Rattle.askread.proofs.put_text.Goals as goal

pub returns : goal.returns
returns c = text_put _ _ _ _ c.read_class-answer.result _ _ c.read_class-answer.ensures c.read_line.ensures
