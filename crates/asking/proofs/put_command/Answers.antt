-- The line has the answer's numbers and the buffer after the call.
-- Assumes nothing.
use Rattle.asking.proofs.AskingLaws.{command_put}
use Rattle.asking.proofs.put_command.Goals as goal

pub returns : goal.returns
returns c = command_put _ _ _ _ _ _ _ _ _ _ c.command-answer.ensures c.command_line.ensures
