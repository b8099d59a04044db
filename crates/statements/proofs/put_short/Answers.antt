-- Two halves, one behind the other.
-- Assumes nothing.
use Rattle.encoding.specs.Records.{four, zeros}
use Rattle.statements.proofs.PuttingLaws.{halves_put}
use Rattle.statements.proofs.put_short.Goals as goal

pub returns : goal.returns
returns c = let a = c.args in halves_put (four a.a a.b a.c 0) zeros c.put_record-middle.ensures c.put_record.ensures
