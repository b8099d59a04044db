-- `put_bytes` meets its contract. The loop's invariant: the bytes so far are written.
-- Assumes nothing.
use Rattle.pen.proofs.Puts.{byte_more, bytes_all}
use Rattle.pen.proofs.put_bytes.Goals as goal

pub loop-byte-preserved : goal.loop-byte-preserved
loop-byte-preserved c = byte_more _ _ _ _ _ _ _ _ c.loop-byte.invariant c.loop-byte-test.true c.put_one-end.ensures

pub returns : goal.returns
returns c = bytes_all _ _ _ _ _ _ c.loop-byte.invariant c.loop-byte-test.false
