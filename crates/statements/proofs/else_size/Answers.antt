-- By the kind.
-- Assumes nothing.
use Rattle.statements.proofs.LookingLaws.{no_else, some_else}
use Rattle.statements.proofs.else_size.Goals as goal

pub returns-then-kind-ne-ELSE : goal.returns-then-kind-ne-ELSE
returns-then-kind-ne-ELSE c = no_else _ _ _ c.if-kind-ne-ELSE.true

pub returns : goal.returns
returns c = some_else _ _ _ _ _ _ c.if-kind-ne-ELSE.false c.part_ahead.ensures
