-- Each answer of the judge has its text.
-- Assumes nothing.
use Rattle.lines.specs.Lines.{text_of}
use Rattle.lines.proofs.LineLaws.{told_refused}
use Rattle.lines.proofs.answers.judge_line.Goals as goal

pub returns-in-Ok : goal.returns-in-Ok
unfolding text_of
returns-in-Ok c = rw c.in-Ok.is c.append_bytes.ensures

pub returns-in-Err : goal.returns-in-Err
returns-in-Err c =
    rw c.in-Err.is (told_refused _ _ _ _ c.in-Err.x c.refused.ensures)
