use Rattle.steps.proofs.Going.{link}
use Rattle.steps.specs.Going.{going}
use Rattle.steps.specs.Turns.{when_turns}
use Rattle.steps.proofs.whens.Goals as goal

pub returns : goal.returns
unfolding going when_turns
returns c = link _ _ _ _ _ c.on.ensures c.actions.ensures
