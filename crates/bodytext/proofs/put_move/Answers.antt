-- The words of a move_to, one behind the other.
-- Assumes nothing.
use Rattle.grammar.specs.Words.{spelled}
use Rattle.model.specs.Words.{listed}
use Rattle.pen.proofs.Puts.{puts_on}
use Rattle.bodytext.specs.BodyText.{move_line}
use Rattle.bodytext.proofs.PartLaws.{puts_line}
use Rattle.bodytext.proofs.put_move.Goals as goal

pub returns : goal.returns
unfolding spelled listed move_line
returns c = puts_line _ c.put_indent-a.ensures (puts_on c.put_bytes-b.ensures c.put_name-c.ensures) c.put_bytes.ensures
