-- `put_braced` meets its contract: one run of bytes behind another.
-- Assumes nothing.
use Rattle.spelling.proofs.SpellingLaws.{braces}
use Rattle.spelling.proofs.put_braced.Goals as goal

pub returns : goal.returns
returns c = braces _ c.put_bytes-a.ensures c.put_row-b.ensures c.put_bytes.ensures
