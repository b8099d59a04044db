-- `smallest_returning`: no state before q comes back.
-- Assumes nothing.
use native.Mathlib.Omega.{arith}
use Rattle.loops.proofs.WalkLaws.{none_start, none_more, smallest_here, smallest_none}
use Rattle.loops.proofs.chase.smallest_returning.Goals as goal

pub loop-q-init : goal.loop-q-init
loop-q-init c = (omega arith, none_start _)

pub returns-then-comes_back : goal.returns-then-comes_back
returns-then-comes_back c = smallest_here _ _ _ c.loop-q.invariant.1 c.loop-q-test.true _ c.comes_back.ensures c.if-comes_back.true

pub loop-q-preserved : goal.loop-q-preserved
loop-q-preserved c = (omega arith, none_more _ _ c.loop-q.invariant.1 _ c.comes_back.ensures c.if-comes_back.false)

pub returns : goal.returns
returns c = smallest_none _ _ _ c.loop-q.invariant.1 c.loop-q-test.false
