-- The line has the answer's numbers and the buffer after the call.
-- Assumes nothing.
use Rattle.asking.proofs.AskingLaws.{phase_put}
use Rattle.asking.proofs.put_phase.Goals as goal

pub returns : goal.returns
returns c = phase_put _ _ _ _ _ _ _ _ _ c.when_phase-answer.ensures c.phase_line.ensures
