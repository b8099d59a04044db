use lib.Dec.{eqb}
use mathlib.Core.Path.{◌∙◌, ap}
use mathlib.Core.Bool.{Bool, ◌||◌}
use Rattle.kinds.proofs.Laws.{alphanumeric}
use Rattle.kinds.proofs.is_name_char.Goals as goal

pub returns : goal.returns
returns c = ap (λ (t : Bool). t || eqb c.args.b 95) c.is_ascii_alphanumeric.ensures.value ∙ alphanumeric _
