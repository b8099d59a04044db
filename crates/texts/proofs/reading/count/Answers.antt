-- The invariant: what was counted and what is left are all.
-- Assumes nothing.
use native.Mathlib.Omega.{arith}
use Rattle.texts.proofs.FieldLaws.{count_hit, count_miss, count_end}
use Rattle.texts.proofs.reading.count.Goals as goal
use Rattle.texts.proofs.reading.count.Goals.{then-x-byte, else-x-byte}

pub loop-x-preserved : goal.loop-x-preserved
loop-x-preserved c =
    elim c.if-x-byte.branch [
      | then-x-byte w ↦ (omega arith, count_hit _ _ _ _ _ _ c.loop-x-test.true c.loop-x.invariant.1 w.if-x-byte.true (omega (arith, w.n-is)))
      | else-x-byte w ↦ (omega arith, count_miss _ _ _ _ _ _ c.loop-x-test.true c.loop-x.invariant.1 w.if-x-byte.false (omega (arith, w.n-is)))
    ]

pub returns : goal.returns
returns c = count_end _ _ _ _ _ c.loop-x-test.false c.loop-x.invariant.1
