-- The invariant: the digits of the bytes up to this one are appended. A turn appends those of one more.
-- Assumes nothing.
use Rattle.texts.specs.Texts.{hex_text}
use Rattle.texts.proofs.Appending.{appended_none, appended_hex, appended_all_hex}
use Rattle.texts.proofs.writing.append_hex.Goals as goal

pub loop-x-init : goal.loop-x-init
unfolding hex_text
loop-x-init c = appended_none _ _ _ c.least-end.ensures

pub loop-x-preserved : goal.loop-x-preserved
loop-x-preserved c = appended_hex _ _ _ _ _ _ _ _ c.loop-x-test.true c.loop-x.invariant c.append_hex_byte-end.ensures

pub returns : goal.returns
returns c = appended_all_hex _ _ _ _ _ _ c.loop-x-test.false c.loop-x.invariant
