-- `is_among` meets its contract: the name has a number, or none.
-- Assumes nothing.
use mathlib.Core.Path.{◌∙◌, ap}
use Rattle.std.specs.Prelude.{is_some}
use Rattle.naming.specs.Known.{among}
use Rattle.lists.proofs.TableLaws.{found_told}
use Rattle.known.proofs.is_among.Goals as goal

pub returns : goal.returns
unfolding among
returns c = c.is_some.ensures ∙ ap is_some c.number_of.ensures ∙ found_told _ _ _
