use Rattle.steps.proofs.Going.{link}
use Rattle.steps.specs.Going.{going}
use Rattle.steps.specs.Turns.{statement_turns}
use Rattle.steps.proofs.statement.Goals as goal

pub returns : goal.returns
unfolding going statement_turns
returns c =
    link _ _ _ _ _ c.on.ensures
    (link _ _ _ _ _ c.on-go_to.ensures (link _ _ _ _ _ c.on-branch.ensures c.ending-end.ensures))
