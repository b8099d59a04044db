-- By the next word.
-- Assumes nothing.
use Rattle.statements.proofs.PuttingLaws.{kin_everyone, kin_named}
use Rattle.statements.proofs.kin_ahead.Goals as goal

pub returns-then-w-eq-CHILDREN : goal.returns-then-w-eq-CHILDREN
returns-then-w-eq-CHILDREN c = kin_everyone _ _ _ _ _ _ c.next_word-w.ensures c.if-w-eq-CHILDREN.true

pub returns : goal.returns
returns c = kin_named _ _ _ _ _ _ c.next_word-w.ensures c.if-w-eq-CHILDREN.false _ _ _ c.name_ahead-name.ensures c.listed_number.ensures
