use Rattle.steps.proofs.Going.{link}
use Rattle.steps.proofs.either.Goals as goal

pub returns : goal.returns
returns c = link _ _ _ _ _ c.on-2.ensures c.on.ensures
