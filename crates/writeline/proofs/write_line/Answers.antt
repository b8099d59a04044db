-- The answer, and the buffer behind it.
-- Assumes nothing.
use Rattle.texts.proofs.Appending.{appended_then}
use Rattle.writeline.proofs.write_line.Goals as goal

pub returns : goal.returns
returns c = appended_then _ _ _ _ _ _ _ _ c.written_line-end.ensures c.append_string.ensures
