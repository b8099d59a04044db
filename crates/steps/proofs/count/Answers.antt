use Rattle.steps.proofs.Going.{count_up, count_same, count_down}
use Rattle.steps.proofs.count.Goals as goal

pub returns-then-kind-up : goal.returns-then-kind-up
returns-then-kind-up c = count_up _ _ _ _ c.if-kind-up.true

pub returns-then-kind-down : goal.returns-then-kind-down
returns-then-kind-down c = count_down _ _ _ _ _ c.if-kind-up.false c.if-kind-down.true c.saturating_sub.ensures

pub returns-else-kind-down : goal.returns-else-kind-down
returns-else-kind-down c = count_same _ _ _ _ c.if-kind-up.false c.if-kind-down.false
