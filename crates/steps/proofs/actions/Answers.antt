use Rattle.steps.proofs.Going.{link}
use Rattle.steps.specs.Going.{going}
use Rattle.steps.specs.Turns.{action_turns}
use Rattle.steps.proofs.actions.Goals as goal

pub returns : goal.returns
unfolding going action_turns
returns c = link _ _ _ _ _ c.on.ensures (link _ _ _ _ _ c.on-state.ensures c.on-end.ensures)
