-- Word by word.
-- Assumes nothing.
use Rattle.statements.proofs.PuttingLaws.{kin_short, kin_cut, kin_third}
use Rattle.statements.proofs.kin_behind.Goals as goal

pub returns-then-name-eq-END : goal.returns-then-name-eq-END
returns-then-name-eq-END c = kin_short _ _ _ _ _ _ c.next_word-name.ensures c.if-name-eq-END.true

pub returns-then-all-eq-END : goal.returns-then-all-eq-END
returns-then-all-eq-END c = kin_cut _ _ _ _ _ _ c.next_word-name.ensures c.if-name-eq-END.false _ _ _ c.next_word-all.ensures c.if-all-eq-END.true

pub returns : goal.returns
returns c =
    kin_third _ _ _ _ _ _ c.next_word-name.ensures c.if-name-eq-END.false _ _ _ c.next_word-all.ensures c.if-all-eq-END.false _
    c.kin_ahead.ensures
