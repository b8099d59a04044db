-- Each kind of question is put.
-- Assumes nothing.
use Rattle.asking.proofs.AskingLaws.{probe_put, same_placed}
use Rattle.asking.specs.Asking.{placed_answer}
use Rattle.asking.proofs.ask_placed.Goals as goal

pub returns-in-Probe : goal.returns-in-Probe
returns-in-Probe c = probe_put _ _ _ _ _ _ _ _ _ c.in-Probe.is c.probe.ensures.numbers_are c.probe_line.ensures

pub returns-in-Phase : goal.returns-in-Phase
unfolding placed_answer
returns-in-Phase c = same_placed _ _ _ _ _ _ _ _ _ c.in-Phase.is c.ask_sending.ensures

pub returns-in-Command : goal.returns-in-Command
unfolding placed_answer
returns-in-Command c = same_placed _ _ _ _ _ _ _ _ _ c.in-Command.is c.ask_command.ensures
