-- The line has the answer's numbers and the buffer after the call.
-- Assumes nothing.
use Rattle.asking.proofs.AskingLaws.{loop_put}
use Rattle.asking.proofs.put_loop.Goals as goal

pub returns : goal.returns
returns c = loop_put _ _ _ _ _ _ _ _ c.loop_question-answer.ensures c.loop_line.ensures
