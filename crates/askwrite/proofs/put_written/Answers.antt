-- The line has the answer's numbers and the buffer after the call.
-- Assumes nothing.
use Rattle.askwrite.proofs.WriteLaws.{written_put}
use Rattle.askwrite.proofs.put_written.Goals as goal

pub returns : goal.returns
returns c = written_put _ _ _ _ _ _ _ _ c.write_class-answer.ensures c.write_line.ensures
