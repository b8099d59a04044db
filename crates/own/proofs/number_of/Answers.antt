-- `number_of` meets its contract: in the table, or else behind it.
-- Assumes nothing.
use Rattle.own.proofs.LookingUp.{number_held, number_behind}
use Rattle.own.proofs.number_of.Goals as goal

pub returns-in-Some : goal.returns-in-Some
returns-in-Some c = number_held _ _ _ _ _ _ _ _ c.among_held-found.ensures _ c.in-Some.is

pub returns-in-None : goal.returns-in-None
returns-in-None c = number_behind _ _ _ _ _ _ _ _ c.among_held-found.ensures c.in-None.is _ c.ahead.ensures
