-- `sort_lanes`: the words of the states before q are sorted.
-- Assumes nothing.
use native.Mathlib.Omega.{arith}
use mathlib.Core.Path.{◌∙◌}
use Rattle.arrows.proofs.SortingLaws.{hits_lent, runs_lent, all_start, all_more, all_end}
use Rattle.arrows.proofs.sorting.sort_lanes.Goals as goal

pub loop-q-init : goal.loop-q-init
loop-q-init c = let p = c.requires in (omega arith, all_start _ _ _ _ _ _ _ _ _ _ p.1 p.2)

pub take_hits-requires : goal.take_hits-requires
take_hits-requires c = hits_lent _ _ _ _ _ _ _ _ c.requires.0 _ c.loop-q-test.true c.loop-q.invariant.1.long

pub run_actions-requires : goal.run_actions-requires
run_actions-requires c = runs_lent _ _ _ _ _ _ _ _ c.requires.0 _ c.loop-q-test.true (c.take_hits.ensures.long ∙ c.loop-q.invariant.1.long)

pub loop-q-preserved : goal.loop-q-preserved
loop-q-preserved c = (omega arith, all_more _ _ _ _ _ _ _ _ _ c.requires.0 _ _ _ _ c.loop-q.invariant.1 c.loop-q-test.true c.take_hits.ensures c.run_actions.ensures)

pub returns : goal.returns
returns c = all_end _ _ _ _ _ _ _ _ _ _ _ c.loop-q.invariant.1 c.loop-q.invariant.0 c.loop-q-test.false
