-- The words of a do, one behind the other.
-- Assumes nothing.
use Rattle.grammar.specs.Words.{spelled}
use Rattle.model.specs.Words.{listed}
use Rattle.pen.proofs.Puts.{puts_on}
use Rattle.bodytext.specs.BodyText.{do_line}
use Rattle.bodytext.proofs.PartLaws.{puts_line}
use Rattle.bodytext.proofs.put_do.Goals as goal

pub returns : goal.returns
unfolding spelled listed do_line
returns c = puts_line _ c.put_indent-a.ensures (puts_on (puts_on (puts_on c.put_bytes-b.ensures c.put_name-c.ensures) c.put_bytes-d.ensures) c.put_kin-e.ensures) c.put_bytes.ensures
