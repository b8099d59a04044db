-- The sizes of its parts are those of the parts ahead.
-- Assumes nothing.
use Prim.Native.Nat.{◌/◌}
use Rattle.encoding.specs.Records.{four}
use Rattle.statements.proofs.PuttingLaws.{halves_put, if_put}
use Rattle.statements.proofs.put_if.Goals as goal

pub returns : goal.returns
returns c =
    let n = c.args.n in
    let a = c.part_ahead-part.result.size in
    let b = c.else_size-b.result in
    if_put _ _ _ _ _ _ n a _ _ b c.part_ahead-part.ensures c.else_size-b.ensures
    (halves_put (four 2 0 n (n / 256)) (four a (a / 256) b (b / 256)) c.put_record-middle.ensures c.put_record.ensures)
