-- The space, and the digits behind it.
-- Assumes nothing.
use Rattle.texts.proofs.Appending.{appended_then}
use Rattle.texts.proofs.writing.append_number.Goals as goal

pub returns : goal.returns
returns c = appended_then _ _ _ _ _ _ _ _ c.append_byte-next.ensures c.append_decimal.ensures
