-- `pack_command`: a refusal is its own word and leaves the lent one; what is given has its words.
-- Assumes nothing.
use mathlib.Core.Path.{ap}
use Rattle.model.specs.Answers.{command_numbers}
use Rattle.bw.proofs.PackedLaws.{both_refused, both_given}
use Rattle.bw.proofs.pack_command.Goals as goal

pub returns-in-Err : goal.returns-in-Err
returns-in-Err c = both_refused c.in-Err.x _ c.from.ensures _ _ (ap command_numbers c.in-Err.is)

pub returns-in-Ok : goal.returns-in-Ok
returns-in-Ok c = both_given c.in-Ok.h c.in-Ok.p _ _ c.pack_handling.ensures c.pack_phased.ensures _ _ (ap command_numbers c.in-Ok.is)
