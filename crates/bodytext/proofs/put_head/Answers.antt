-- The words of the line that an if begins with.
-- Assumes nothing.
use Rattle.model.specs.Words.{listed}
use Rattle.grammar.specs.Words.{spelled}
use Rattle.pen.proofs.Puts.{puts_on}
use Rattle.bodytext.specs.BodyText.{if_line}
use Rattle.bodytext.proofs.PartLaws.{puts_line}
use Rattle.bodytext.proofs.put_head.Goals as goal

pub returns : goal.returns
unfolding spelled listed if_line
returns c = λ t y read. puts_line _ c.put_indent-a.ensures (puts_on (puts_on c.put_bytes-b.ensures (c.put_guard-c.ensures t y read)) c.put_bytes-d.ensures) c.put_bytes.ensures
