-- The invariant: the bytes up to this one are appended. A turn appends one more.
-- Assumes nothing.
use Rattle.texts.proofs.Appending.{appended_next, appended_all}
use Rattle.texts.proofs.writing.append_bytes.Goals as goal

pub loop-x-preserved : goal.loop-x-preserved
loop-x-preserved c = appended_next _ _ _ _ _ _ _ _ c.loop-x-test.true c.loop-x.invariant c.append_byte-end.ensures

pub returns : goal.returns
returns c = appended_all _ _ _ _ _ _ c.loop-x-test.false c.loop-x.invariant
