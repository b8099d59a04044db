-- The number, and what is behind it.
-- Assumes nothing.
use Rattle.asking.specs.Asking.{command_answer}
use Rattle.asking.proofs.AskingLaws.{number_wrong, number_read}
use Rattle.asking.proofs.ask_command.Goals as goal

pub returns-in_default : goal.returns-in_default
unfolding command_answer
returns-in_default c = number_wrong _ _ _ _ _ _ c.first_field.ensures c.in_default.ensures c.bad_line.ensures

pub returns : goal.returns
unfolding command_answer
returns c = number_read _ _ _ _ _ _ c.first_field.ensures _ c.in-Some.ensures _ c.other_fields.ensures c.ask_sending.ensures
