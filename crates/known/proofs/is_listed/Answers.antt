-- `is_listed` meets its contract: the name has a number, or none.
-- Assumes nothing.
use mathlib.Core.Path.{◌∙◌, ap}
use Rattle.std.specs.Prelude.{is_some}
use Rattle.naming.specs.NameLists.{listed_in, number_in}
use Rattle.lists.proofs.TableLaws.{found_told}
use Rattle.known.proofs.is_listed.Goals as goal

pub returns : goal.returns
unfolding listed_in number_in
returns c = c.is_some.ensures ∙ ap is_some c.number_in.ensures ∙ found_told _ _ _
