-- A line: its indent, its words, its end.
-- Assumes nothing.
use Rattle.bodytext.proofs.PartLaws.{puts_line}
use Rattle.bodytext.proofs.put_line.Goals as goal

pub returns : goal.returns
returns c = puts_line _ c.put_indent-a.ensures c.put_bytes-b.ensures c.put_bytes.ensures
