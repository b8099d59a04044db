-- Each answer has its text.
-- Assumes nothing.
use Rattle.lines.specs.Lines.{one_case, written_word}
use Rattle.lines.proofs.LineLaws.{case_refused}
use Rattle.writeline.proofs.written_line.Goals as goal

pub returns-in-Err : goal.returns-in-Err
returns-in-Err c = rw c.in-Err.is (case_refused written_word _ _ _ c.in-Err.x c.refused.ensures)

pub returns-in-Ok : goal.returns-in-Ok
unfolding one_case
returns-in-Ok c = rw c.in-Ok.is c.say.ensures
