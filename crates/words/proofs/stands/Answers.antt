use native.Mathlib.Omega.{arith}
use mathlib.Core.Path.{◌∙◌, ap}
use lib.ListN.{length}
use Rattle.std.proofs.lemmas.Slice.{between_to_end}
use Rattle.grammar.specs.Words.{begins}
use Rattle.kinds.proofs.Laws.{same_is}
use Rattle.words.proofs.stands.Goals as goal

pub returns : goal.returns
returns c =
    c.starts_with.ensures.value ∙ same_is _ _ ∙ ap (begins c.args.word.now) (between_to_end c.args.text.now c.args.at (length c.args.text.now) (omega arith))
