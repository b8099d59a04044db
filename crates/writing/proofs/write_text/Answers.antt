-- 17, 19, or the text and its room.
-- Assumes nothing.
use Rattle.writing.proofs.WritingLaws.{unnamed, too_many, text_asked}
use mathlib.Core.Path.{ap}
use mathlib.Core.Bool.{not}
use Rattle.writing.proofs.write_text.Goals as goal

pub returns-then-not-names_right : goal.returns-then-not-names_right
returns-then-not-names_right c = unnamed _ _ _ _ c.names_right.ensures (ap not c.if-not-names_right.true)

pub returns-then-not-guards_few : goal.returns-then-not-guards_few
returns-then-not-guards_few c = too_many _ _ _ _ c.names_right.ensures (ap not c.if-not-names_right.false) _ c.guards_few.ensures (ap not c.if-not-guards_few.true)

pub returns : goal.returns
returns c = text_asked _ _ _ _ c.names_right.ensures (ap not c.if-not-names_right.false) _ c.guards_few.ensures (ap not c.if-not-guards_few.false) _ c.write_within.result c.write_within.ensures
