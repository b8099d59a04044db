-- The text is counted, and written where there is room.
-- Assumes nothing.
use native.Mathlib.Omega.{arith}
use mathlib.Core.Path.{refl}
use Rattle.writing.proofs.WritingLaws.{no_room, with_room}
use Rattle.writing.proofs.write_within.Goals as goal

pub returns-then-out-needed : goal.returns-then-out-needed
returns-then-out-needed c = no_room _ _ _ (omega (arith, c.well_formed)) _ _ _ c.put_text-needed.ensures c.if-out-needed.true _ refl

pub returns : goal.returns
returns c = with_room _ _ _ (omega (arith, c.well_formed)) _ _ _ c.put_text-needed.ensures c.if-out-needed.false _ _ c.put_text-length.ensures
