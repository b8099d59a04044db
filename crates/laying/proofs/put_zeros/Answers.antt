use Rattle.laying.proofs.LayingLaws.{zeros_none, zero_more, zeros_all}
use native.Mathlib.Omega.{arith}
use Rattle.laying.proofs.put_zeros.Goals as goal

pub loop-init : goal.loop-init
loop-init c = zeros_none _ _ _ (omega arith) (omega arith)

pub loop-preserved : goal.loop-preserved
loop-preserved c = zero_more _ _ _ _ _ _ _ _ c.loop.invariant c.loop-test.true c.put_one-end.ensures

pub returns : goal.returns
returns c = zeros_all _ _ _ _ _ _ c.loop.invariant c.loop-test.false
