-- No clause and a clause have their words.
-- Assumes nothing.
use Rattle.lines.specs.Lines.{said, text_of}
use Rattle.lines.proofs.answers.probed_line.Goals as goal

pub returns-in-None : goal.returns-in-None
unfolding text_of said
returns-in-None c = rw c.in-None.is c.append_bytes.ensures

pub returns-in-Some : goal.returns-in-Some
unfolding text_of
returns-in-Some c = rw c.in-Some.is c.clause_line.ensures
