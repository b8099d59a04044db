use Rattle.steps.proofs.Going.{link}
use Rattle.steps.specs.Going.{going}
use Rattle.steps.specs.Turns.{operator_turns}
use Rattle.steps.proofs.operators.Goals as goal

pub returns : goal.returns
unfolding going operator_turns
returns c = link _ _ _ _ _ c.on.ensures (link _ _ _ _ _ c.on-or.ensures c.closing-close.ensures)
