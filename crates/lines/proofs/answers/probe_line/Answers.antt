-- A refusal has its text.
-- Assumes nothing.
use Rattle.lines.proofs.LineLaws.{told_refused}
use Rattle.lines.proofs.answers.probe_line.Goals as goal

pub returns-in-Err : goal.returns-in-Err
returns-in-Err c =
    rw c.in-Err.is (told_refused _ _ _ _ c.in-Err.x c.refused.ensures)
