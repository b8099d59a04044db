-- A settled phase and a loop have their texts.
-- Assumes nothing.
use Rattle.lines.specs.Lines.{text_of}
use Rattle.lines.proofs.answers.append_phase.Goals as goal

pub returns-in-Settled : goal.returns-in-Settled
returns-in-Settled c = rw c.in-Settled.is c.append_settled.ensures

pub returns-in-Loops : goal.returns-in-Loops
unfolding text_of
returns-in-Loops c = rw c.in-Loops.is c.append_unclosed.ensures
