-- `block`: no lane counts, or the words, the moves and the levels follow one from the other.
-- Assumes nothing.
-- what `block` was called with
use mathlib.Core.Path.{refl}
use Rattle.model.proofs.Lists.{get_or_zeros}
use Rattle.blocks.proofs.BlockLaws.{block_skipped, block_is}
use Rattle.blocks.proofs.search.block.Goals as goal

pub returns-then-counted-eq0 : goal.returns-then-counted-eq0
returns-then-counted-eq0 c = block_skipped _ _ _ _ _ _ c.requires.round c.counted_lanes-counted.ensures c.if-counted-eq0.true

pub sort_lanes-requires : goal.sort_lanes-requires
sort_lanes-requires c = (c.requires.ranges, (λ x. get_or_zeros 1280 x), refl)

pub count_moves-requires : goal.count_moves-requires
count_moves-requires c =
    let t = c.requires in
    (record { few = t.ranges.few; of_table = c.sort_lanes.ensures.long }, t.some_state)

pub returns : goal.returns
returns c = block_is _ _ _ _ _ _ c.requires.round c.counted_lanes-counted.ensures _ _ _ c.count_moves.result c.fill_words.ensures c.sort_lanes.ensures c.count_moves.ensures
