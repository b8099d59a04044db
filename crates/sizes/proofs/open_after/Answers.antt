-- Assumes nothing.
use mathlib.Core.Path.{◌∙◌, ap}
use Rattle.grammar.specs.Grammar.{endif_word}
use Rattle.sizes.specs.Counting.{is, untick}
use Rattle.sizes.proofs.open_after.Goals as goal

pub returns : goal.returns
returns c = c.untick.ensures ∙ ap (untick (is endif_word c.args.kind)) c.tick.ensures
