-- The invariant: with the bytes that are left the buffer is as it is to be.
-- Assumes nothing.
use Rattle.texts.proofs.HexLaws.{unpack_on, unpack_end}
use Rattle.texts.proofs.reading.unpack.Goals as goal

pub loop-i-preserved : goal.loop-i-preserved
loop-i-preserved c = unpack_on _ _ _ _ _ _ c.loop-i-test.true c.loop-i.invariant c.pair_value.ensures c.append_byte.ensures.buffer

pub returns : goal.returns
returns c = unpack_end _ _ _ _ c.loop-i-test.false c.loop-i.auto.i-end c.loop-i.invariant
