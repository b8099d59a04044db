-- The answer, and the two buffers behind it.
-- Assumes nothing.
use Rattle.texts.proofs.Appending.{appended_then}
use Rattle.readline.proofs.read_line.Goals as goal

pub returns : goal.returns
returns c = appended_then _ _ _ _ _ _ _ _ (appended_then _ _ _ _ _ _ _ _ c.reading_line-end.ensures c.append_string-next.ensures) c.append_string.ensures
