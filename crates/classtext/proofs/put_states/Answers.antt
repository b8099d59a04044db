-- `put_states` meets its contract. The loop's invariant: whoever writes the states that are left has written all.
-- Assumes nothing.
use native.Mathlib.Omega.{arith}
use Rattle.lists.specs.Lent.{lists_of}
use Rattle.pen.proofs.Puts.{going_none, going_on, going_end}
use Rattle.classtext.proofs.ClassLaws.{states_start, state_less, no_state_left}
use Rattle.classtext.proofs.put_states.Goals as goal

pub loop-q-init : goal.loop-q-init
loop-q-init c =
    let x = c.args in
    let e = states_start x.sheet.bytes.now x.own.now (lists_of x.lists) _ c.state_count-n.ensures.0 in
    rw (← e) (going_none _ _ _ (omega arith))

pub loop-q-preserved : goal.loop-q-preserved
loop-q-preserved c = going_on c.loop-q.invariant (state_less _ _ _ _ _ c.loop-q-test.true) c.put_state-end.ensures

pub returns : goal.returns
returns c = going_end c.loop-q.invariant (no_state_left _ _ _ _ _ c.loop-q-test.false) (omega (arith, c.well_formed))
