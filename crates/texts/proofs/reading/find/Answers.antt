-- The invariant: the byte was not met from the first place up to this one.
-- Assumes nothing.
use Rattle.texts.proofs.FieldLaws.{seek_on, seek_found, seek_end}
use Rattle.texts.proofs.reading.find.Goals as goal

pub returns-then-bytes-at : goal.returns-then-bytes-at
returns-then-bytes-at c = seek_found _ _ _ _ c.loop-at.invariant c.loop-at-test.true c.if-bytes-at.true

pub loop-at-preserved : goal.loop-at-preserved
loop-at-preserved c = seek_on _ _ _ _ c.loop-at.invariant c.loop-at-test.true c.if-bytes-at.false

pub returns : goal.returns
returns c = seek_end _ _ _ _ c.loop-at.invariant c.loop-at-test.false
