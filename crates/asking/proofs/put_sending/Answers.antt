-- Either question is put.
-- Assumes nothing.
use Rattle.asking.proofs.AskingLaws.{same_sending}
use Rattle.asking.proofs.put_sending.Goals as goal

pub returns-in-Phase : goal.returns-in-Phase
returns-in-Phase c = same_sending _ _ _ _ _ _ _ _ _ c.in-Phase.is c.put_phase.ensures

pub returns-in-Command : goal.returns-in-Command
returns-in-Command c = same_sending _ _ _ _ _ _ _ _ _ c.in-Command.is c.put_command.ensures
