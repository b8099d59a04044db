-- What stands behind the place of the first space; nothing where there is none.
-- Assumes nothing.
use Rattle.texts.proofs.FieldLaws.{rest_part, no_rest}
use Rattle.texts.proofs.reading.other_fields.Goals as goal

pub returns-in-Some : goal.returns-in-Some
returns-in-Some c = rest_part _ _ _ c.in-Some.ensures.1

pub returns-in-None : goal.returns-in-None
returns-in-None c = no_rest _ _ c.in-None.ensures
