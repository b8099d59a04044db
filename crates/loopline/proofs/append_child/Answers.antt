-- The class, the colon and the name, one behind the other.
-- Assumes nothing.
use Rattle.texts.proofs.Appending.{appended_then}
use Rattle.loopline.proofs.append_child.Goals as goal

pub returns : goal.returns
returns c = appended_then _ _ _ _ _ _ _ _ c.append_number-next.ensures (appended_then _ _ _ _ _ _ _ _ c.append_byte-end.ensures c.append_decimal.ensures)
