use Rattle.steps.proofs.Going.{link}
use Rattle.steps.specs.Going.{going}
use Rattle.steps.specs.Turns.{operand_turns}
use Rattle.steps.proofs.operand.Goals as goal

pub returns : goal.returns
unfolding going operand_turns
returns c = link _ _ _ _ _ c.on.ensures (link _ _ _ _ _ c.on-bracket.ensures c.either-atom.ensures)
