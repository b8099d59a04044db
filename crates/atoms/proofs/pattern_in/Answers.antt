-- `atoms::pattern_in` meets its contract.
-- Assumes nothing.
use Rattle.atoms.proofs.AtomSteps.{pattern_everyone, pattern_past, pattern_class}
use Rattle.atoms.proofs.pattern_in.Goals as goal

pub returns-then-kind-ne-NAME : goal.returns-then-kind-ne-NAME
returns-then-kind-ne-NAME c = pattern_everyone _ _ _ c.if-kind-ne-NAME.true

pub returns-then-i-ge255 : goal.returns-then-i-ge255
returns-then-i-ge255 c = pattern_past _ _ _ _ c.if-kind-ne-NAME.false c.number-i.ensures c.if-i-ge255.true

pub returns : goal.returns
returns c = pattern_class _ _ _ _ c.if-kind-ne-NAME.false c.number-i.ensures c.if-i-ge255.false
