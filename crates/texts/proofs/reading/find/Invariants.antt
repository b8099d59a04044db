-- The invariant: the byte was not met from the first place up to this one.
-- Assumes nothing.
use Rattle.texts.proofs.FieldLaws.{Seeking}
use Rattle.texts.proofs.reading.find.Given as goal

abbrev pub invariant-loop-at : goal.invariant-loop-at
invariant-loop-at l = Seeking l.byte l.bytes l.from l.at
