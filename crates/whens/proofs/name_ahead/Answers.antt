-- By the next word's kind.
-- Assumes nothing.
use Rattle.whens.proofs.AheadLaws.{name_none, name_next}
use Rattle.whens.proofs.name_ahead.Goals as goal

pub returns-then-w-ne-NAME : goal.returns-then-w-ne-NAME
returns-then-w-ne-NAME c = name_none _ _ _ _ _ c.next_word-w.ensures c.if-w-ne-NAME.true

pub returns : goal.returns
returns c = name_next _ _ _ _ _ c.next_word-w.ensures c.if-w-ne-NAME.false
