-- `run_actions`: the action clauses before a are run.
-- Assumes nothing.
use native.Mathlib.Omega.{arith}
use mathlib.Core.Path.{◌∙◌}
use Rattle.arrows.proofs.SortingLaws.{ran_start, ran_more, ran_end}
use Rattle.arrows.proofs.sorting.run_actions.Goals as goal

pub loop-a-init : goal.loop-a-init
loop-a-init c = ((omega arith, c.requires.rising), ran_start _ _ _ _ _ _)

pub bounds-table-a : goal.bounds-table-a
bounds-table-a c = omega (arith, c.loop-a.invariant.1.kept.long, c.requires.of_table, c.requires.inside)

pub slice_bounds-sweep_list-count : goal.slice_bounds-sweep_list-count
slice_bounds-sweep_list-count c = omega (arith, c.requires.from_rising _ c.loop-a-test.true)

pub slice_bounds-sweep_list-start : goal.slice_bounds-sweep_list-start
slice_bounds-sweep_list-start c = omega (arith, c.requires.from_rising _ c.loop-a-test.true)

pub slice_bounds-sweep_list-end : goal.slice_bounds-sweep_list-end
slice_bounds-sweep_list-end c = omega (arith, c.requires.from_inside _ c.loop-a-test.true)

pub sweep_list-requires : goal.sweep_list-requires
sweep_list-requires c =
    let p = c.requires in
    (p.state, c.loop-a.invariant.1.kept.long ∙ p.of_table)

pub loop-a-preserved : goal.loop-a-preserved
loop-a-preserved c = ((omega arith, omega arith), ran_more _ _ _ _ _ _ _ _ c.loop-a.invariant.1 c.loop-a.invariant.0.0 c.requires.state _ _ c.sweep_list.ensures)

pub returns : goal.returns
returns c = ran_end _ _ _ _ _ _ _ _ _ c.loop-a.invariant.1 c.loop-a.invariant.0.1 c.loop-a-test.false
