-- Each body is asked for its count.
-- Assumes nothing.
use mathlib.Core.Path.{refl}
use borrow.Author.Rules.{rules}
use Rattle.bodies.proofs.Every.{each_from_all}
use Rattle.sheet.specs.Contents.{count_right, counts_in_range}
use Rattle.sheet.proofs.judging.counts_in_range.Goals as goal

pub returns : goal.returns
unfolding counts_in_range
returns c = each_from_all _ (count_right c.args.sheet.now) _ _ refl c.all.ensures.ran (λ x b q k. search rules)
