-- What stands before the place of the first space; all of the line where there is none.
-- Assumes nothing.
use Rattle.texts.proofs.FieldLaws.{first_part, first_alone}
use Rattle.texts.proofs.reading.first_field.Goals as goal

pub returns-in-Some : goal.returns-in-Some
returns-in-Some c = first_part _ _ _ c.in-Some.ensures.1

pub returns-in-None : goal.returns-in-None
returns-in-None c = first_alone _ _ c.in-None.ensures
