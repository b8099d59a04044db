-- A loop and its absence have their words.
-- Assumes nothing.
use Rattle.lines.specs.Lines.{text_of}
use Rattle.lines.proofs.answers.looped_line.Goals as goal

pub returns-in-Loop : goal.returns-in-Loop
unfolding text_of
returns-in-Loop c = rw c.in-Loop.is c.say.ensures

pub returns-in-Free : goal.returns-in-Free
unfolding text_of
returns-in-Free c = rw c.in-Free.is c.say-in-Free.ensures
