-- `try_blocks`: the configurations before the next block have no loop, and the longest phase in them is known.
-- Assumes nothing.
-- the place before the block, from the one where it is called and from the one behind it
use native.Mathlib.Omega.{arith}
use mathlib.Core.Path.{refl, ◌∙◌}
use Rattle.lanes.proofs.LaneLaws.{lowest_most}
use Rattle.blocks.proofs.SearchLaws.{search_start, lent, larger, search_more, search_loop, search_free}
use Rattle.blocks.proofs.search.try_blocks.Goals as goal

pub loop-base-init : goal.loop-base-init
loop-base-init c = search_start _ _ _ _ _ _ _ c.requires.1 refl refl

pub block-requires : goal.block-requires
block-requires c = lent _ _ _ _ _ _ _ _ _ c.loop-base.invariant c.requires.0

pub overflow_add-k : goal.overflow_add-k
overflow_add-k c = omega (arith, c.loop-base.invariant.small, lowest_most _ _ c.lowest_lane.ensures)

pub returns-in-Err : goal.returns-in-Err
returns-in-Err c = search_loop _ _ _ _ _ _ _ _ _ c.loop-base.invariant _ c.block.ensures _ _ c.in-Err.is c.lowest_lane.ensures

pub loop-base-smaller : goal.loop-base-smaller
loop-base-smaller c = omega (arith, c.loop-base-test.true)

pub loop-base-preserved : goal.loop-base-preserved
loop-base-preserved c = search_more _ _ _ _ _ _ _ _ _ c.loop-base.invariant _ c.block.ensures _ _ _ c.loop-base-test.true c.block.auto.words c.in-Ok.is (c.max-longest.ensures ∙ larger _ _)

pub returns-in-Ok : goal.returns-in-Ok
returns-in-Ok c =
    search_free _ _ _ _ _ _ _ _ _ (search_more _ _ _ _ _ _ _ _ _ c.loop-base.invariant _ c.block.ensures _ _ _ c.loop-base-test.true c.block.auto.words c.in-Ok.is (c.max-longest.ensures ∙ larger _ _)) (omega (arith, c.loop-base-test.true))

pub returns : goal.returns
returns c = search_free _ _ _ _ _ _ _ _ _ c.loop-base.invariant c.loop-base-test.false
