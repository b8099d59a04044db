-- A refusal has its text.
-- Assumes nothing.
use Rattle.lines.proofs.LineLaws.{command_refused}
use Rattle.lines.proofs.answers.handling_line.Goals as goal

pub returns-in-Err : goal.returns-in-Err
returns-in-Err c =
    rw c.in-Err.is (command_refused _ _ _ c.in-Err.x c.refused.ensures)
