-- The number that was found, or 0.
-- Assumes nothing.
use Rattle.clauses.proofs.Turns.{command_found, command_nowhere}
use Rattle.clauses.proofs.command_number.Goals as goal

pub returns-in-Some : goal.returns-in-Some
returns-in-Some c = command_found _ _ c.number_in-found.ensures c.in-Some.is

pub returns-in-None : goal.returns-in-None
returns-in-None c = command_nowhere _ _ c.number_in-found.ensures c.in-None.is
