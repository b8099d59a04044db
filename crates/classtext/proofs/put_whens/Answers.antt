-- `put_whens` meets its contract. The loop's invariant: whoever writes the clauses that are left has written all.
-- Assumes nothing.
use native.Mathlib.Omega.{arith}
use Rattle.lists.specs.Lent.{lists_of}
use Rattle.pen.proofs.Puts.{going_none, going_on, going_end}
use Rattle.classtext.proofs.ClassLaws.{one_less, none_left, whens_start, when_of_state}
use Rattle.classtext.proofs.put_whens.Goals as goal

pub loop-i-init : goal.loop-i-init
loop-i-init c =
    let x = c.args in
    let e = whens_start x.sheet.bytes.now x.q.0 x.own.now (lists_of x.lists) _ _ c.clauses_of-clauses.ensures.first_is c.clauses_of-clauses.ensures.count_is in
    rw (← e) (going_none _ _ _ (omega arith))

pub put_when-end-requires : goal.put_when-end-requires
put_when-end-requires c =
    let y = c.clauses_of-clauses.ensures in
    when_of_state _ _ _ _ _ c.requires y.first_is y.count_is c.loop-i-test.true

pub loop-i-preserved : goal.loop-i-preserved
loop-i-preserved c = going_on c.loop-i.invariant (one_less _ _ _ _ _ c.loop-i-test.true) c.put_when-end.ensures

pub returns : goal.returns
returns c = going_end c.loop-i.invariant (none_left _ _ _ _ _ c.loop-i-test.false) (omega (arith, c.well_formed))
