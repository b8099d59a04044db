-- The numbers one by one.
-- Assumes nothing.
use Rattle.sizes.proofs.Turns.{counted_is}
use Rattle.sizes.proofs.counted.Goals as goal

pub returns : goal.returns
returns c =
    let a = c.args in
    counted_is a.n a.acting a.ifs a.kind c.tick.ensures c.tick-2.ensures c.of_guard.ensures c.tick-3.ensures c.tick-4.ensures
    c.of_statement.ensures c.tick-5.ensures c.raised.ensures
