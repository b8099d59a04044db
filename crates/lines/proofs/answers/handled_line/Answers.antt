-- An ignored and a handled command have their words.
-- Assumes nothing.
use Rattle.lines.specs.Lines.{text_of}
use Rattle.lines.proofs.answers.handled_line.Goals as goal

pub returns-in-Ignored : goal.returns-in-Ignored
unfolding text_of
returns-in-Ignored c = rw c.in-Ignored.is c.say.ensures

pub returns-in-Handled : goal.returns-in-Handled
unfolding text_of
returns-in-Handled c = rw c.in-Handled.is c.say-in-Handled.ensures
