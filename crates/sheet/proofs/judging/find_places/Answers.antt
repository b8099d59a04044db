-- A test that fails gives its number; behind both tests the places that were read rise.
-- Assumes nothing.
use mathlib.Core.Path.{ap}
use mathlib.Core.Bool.{not}
use Rattle.sheet.proofs.JudgeLaws.{length_wrong, length_fits, contents_wrong, contents_fit}
use Rattle.sheet.proofs.PlaceLaws.{marked}
use Rattle.sheet.proofs.judging.find_places.Goals as goal

pub returns-then-end : goal.returns-then-end
returns-then-end c = length_wrong _ c.if-end.true

pub returns-then-not-bodies_follow-counts_in_range : goal.returns-then-not-bodies_follow-counts_in_range
returns-then-not-bodies_follow-counts_in_range c = contents_wrong _ c.bodies_follow.ensures c.counts_in_range.ensures (length_fits _ c.if-end.false) (ap not c.if-not-bodies_follow-counts_in_range.true)

pub returns : goal.returns
returns c = marked _ (contents_fit _ c.bodies_follow.ensures c.counts_in_range.ensures (ap not c.if-not-bodies_follow-counts_in_range.false)) (length_fits _ c.if-end.false) c.read_places.ensures
