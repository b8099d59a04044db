-- The length, the verb, and what is behind it.
-- Assumes nothing.
use Rattle.asking.proofs.AskingLaws.{too_long, line_asked}
use Rattle.asking.proofs.answer.Goals as goal

pub returns-then-line-gt1048576 : goal.returns-then-line-gt1048576
returns-then-line-gt1048576 c = too_long _ _ _ _ c.if-line-gt1048576.true c.bad_line.ensures

pub returns : goal.returns
returns c = line_asked _ _ _ _ _ _ _ _ c.if-line-gt1048576.false c.first_field.ensures c.count.ensures c.verb_of-verb.ensures c.other_fields.ensures c.ask_fields.ensures
