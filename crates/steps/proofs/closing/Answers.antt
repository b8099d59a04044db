use Rattle.steps.proofs.Going.{link, close_bracket, close_if, close_when}
use Rattle.steps.proofs.closing.Goals as goal

pub returns-then-brackets-ne0 : goal.returns-then-brackets-ne0
returns-then-brackets-ne0 c = close_bracket _ _ _ _ c.if-brackets-ne0.true c.on.ensures

pub returns-then-nested : goal.returns-then-nested
returns-then-nested c = close_if _ _ _ _ c.if-brackets-ne0.false c.if-nested.true c.on-then-nested.ensures

pub returns : goal.returns
returns c =
    close_when _ _ _ _ c.if-brackets-ne0.false c.if-nested.false
    (link _ _ _ _ _ c.on-2.ensures (link _ _ _ _ _ c.on-command.ensures c.on-stay.ensures))
