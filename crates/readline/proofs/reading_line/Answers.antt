-- Each answer to a class text has its text.
-- Assumes nothing.
use Rattle.lines.specs.Lines.{one_case, read_word}
use Rattle.lines.proofs.LineLaws.{case_refused}
use Rattle.readline.proofs.reading_line.Goals as goal

pub returns-in-Err-Refused : goal.returns-in-Err-Refused
returns-in-Err-Refused c = rw (c.in-Err-Refused.is, rw c.in-Err-Refused.is at c.in-Err-Refused.field-0-is) (case_refused read_word _ _ _ c.in-Err-Refused.x c.refused.ensures)

pub returns-in-Err-WrongWord : goal.returns-in-Err-WrongWord
unfolding one_case
returns-in-Err-WrongWord c = rw (c.in-Err-WrongWord.is, rw c.in-Err-WrongWord.is at c.in-Err-WrongWord.field-0-is) c.say.ensures

pub returns-in-Ok : goal.returns-in-Ok
unfolding one_case
returns-in-Ok c = rw c.in-Ok.is c.say-in-Ok.ensures
