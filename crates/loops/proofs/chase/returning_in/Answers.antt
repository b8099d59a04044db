-- `returning_in`: the list that is written is the configuration's, and the sets show it, so the table's moves are the class's.
-- Assumes nothing.
use native.Mathlib.Omega.{arith}
use mathlib.Core.Path.{sym, ◌∙◌}
use Rattle.accepted.proofs.ClauseLaws.{states_are}
use Rattle.loops.proofs.SpreadLaws.{crewed}
use Rattle.loops.proofs.ListLaws.{list_read, list_runs}
use Rattle.loops.proofs.WalkLaws.{state_told}
use Rattle.loops.proofs.chase.returning_in.Goals as goal

pub slice_bounds-crew-end : goal.slice_bounds-crew-end
slice_bounds-crew-end c = omega (arith, c.write_list-n.ensures.2, c.requires.0, c.write_list-n.auto.out)

pub invariant_of-crew : goal.invariant_of-crew
invariant_of-crew c =
    record { runnable = list_runs _ _ _ _ c.write_list-n.ensures.0 c.write_list-n.ensures.1 _ (crewed _ _ _ c.requires.1 c.spread-sets.ensures) (omega (arith, c.write_list-n.ensures.2, c.requires.0)) }

pub returns : goal.returns
returns c =
    state_told _ _ _ _ _ _ c.tabulate.ensures (list_read _ _ _ _ c.write_list-n.ensures.0 c.write_list-n.ensures.1) (c.state_count.ensures.0 ∙ sym (states_are _ _ c.args.sheet.stands)) c.smallest_returning.ensures
