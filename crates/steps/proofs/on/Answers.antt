use Rattle.steps.proofs.Going.{on_hit, on_miss}
use Rattle.steps.proofs.on.Goals as goal

pub returns-then-kind-k : goal.returns-then-kind-k
returns-then-kind-k c = on_hit _ _ _ _ c.if-kind-k.true

pub returns-else-kind-k : goal.returns-else-kind-k
returns-else-kind-k c = on_miss _ _ _ _ c.if-kind-k.false
