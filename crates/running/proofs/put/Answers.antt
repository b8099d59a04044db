-- Three stores, one place apart.
-- Assumes nothing.
use Rattle.running.proofs.SendLaws.{stored}
use Prim.Native.Nat.{◌%◌}
use Rattle.running.proofs.put.Goals as goal

pub returns : goal.returns
returns c =
    let a = c.args in
    stored a.out.now _ _ _ a.at (a.place % 256) _ _ c.store.ensures c.store-2.ensures c.store-3.ensures
