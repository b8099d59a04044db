-- `command_of` meets its contract: the command of the action clause behind the first of the state.
-- Assumes nothing.
use Rattle.phases.proofs.TurnLaws.{command_read}
use Rattle.phases.proofs.command_of.Goals as goal

pub returns : goal.returns
returns c = command_read _ _ _ _ _ _ c.clauses_of-clauses.ensures c.body.ensures c.action_command.ensures
