use Rattle.writeclass.proofs.Making.{text_written, text_refused}
use Rattle.writeclass.proofs.converting.text_made.Goals as goal

pub returns-in-Ok : goal.returns-in-Ok
returns-in-Ok c = text_written _ _ _ _ _ _ _ c.written-answer.ensures _ c.in-Ok.is c.requires.0 c.requires.1

pub returns-in-Err : goal.returns-in-Err
returns-in-Err c = text_refused _ _ _ _ _ _ _ c.written-answer.ensures _ c.in-Err.is _
