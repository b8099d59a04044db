-- `name_held` meets its contract: the places that a table holds are inside the text.
-- Assumes nothing.
use borrow.Author.Rules.{rules}
use Rattle.own.proofs.name_held.Goals as goal

pub slice_bounds-result-count : goal.slice_bounds-result-count
slice_bounds-result-count c = let h = c.requires.0.whole c.args.i c.requires.1 in search rules

pub slice_bounds-result-start : goal.slice_bounds-result-start
slice_bounds-result-start c = let h = c.requires.0.whole c.args.i c.requires.1 in search rules

pub slice_bounds-result-end : goal.slice_bounds-result-end
slice_bounds-result-end c = let h = c.requires.0.inside c.args.i c.requires.1 in search rules
