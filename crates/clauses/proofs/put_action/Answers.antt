-- Its bytes, one behind the other.
-- Assumes nothing.
use Rattle.pen.proofs.Puts.{puts_on}
use Rattle.encoding.specs.Records.{fours}
use Rattle.clauses.proofs.put_action.Goals as goal

pub returns : goal.returns
unfolding fours
returns c = puts_on c.put_one-a.ensures (puts_on c.put_one-b.ensures c.put_two.ensures)
