-- Its two numbers, one behind the other.
-- Assumes nothing.
use Rattle.pen.proofs.Puts.{puts_on}
use Rattle.clauses.proofs.Turns.{state_two}
use Rattle.clauses.proofs.put_state.Goals as goal

pub returns : goal.returns
returns c =
    let a = c.args in
    rw (state_two a.whens a.actions) at (puts_on c.put_two-a.ensures c.put_two.ensures)
