use mathlib.Core.Path.{◌∙◌}
use Rattle.kinds.proofs.Laws.{same_is}
use Rattle.kinds.proofs.is_same.Goals as goal

pub returns : goal.returns
returns c = c.eq.ensures ∙ same_is _ _
