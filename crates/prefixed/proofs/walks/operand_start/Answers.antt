-- `prefixed::walks::operand_start` meets its contract. The loop's invariant: the keys from i on are of the left operand.
-- Assumes nothing.
use Rattle.prefixed.proofs.WalkLaws.{back_start, back_more, back_stop, back_end}
use Prim.Native.Nat.{◌+◌, ◌-◌}
use native.Mathlib.Omega.{arith}
use mathlib.Core.Path.{◌≡◌, ap}
use mathlib.Core.Bool.{not}
use Rattle.prefixed.proofs.walks.operand_start.Goals as goal

pub loop-i-init : goal.loop-i-init
loop-i-init c = back_start _ _ _ _ c.requires.0

pub returns-then-not-x-key : goal.returns-then-not-x-key
returns-then-not-x-key c =
    let z : c.loop-i.i - 1 + 1 ≡ c.loop-i.i = omega arith in
    rw z (back_stop _ _ _ _ _ c.loop-i.invariant c.loop-i-test.true (ap not c.if-not-x-key.true))

pub loop-i-preserved : goal.loop-i-preserved
loop-i-preserved c = back_more _ _ _ _ _ c.loop-i.invariant c.loop-i-test.true (ap not c.if-not-x-key.false)

pub returns : goal.returns
returns c = back_end _ _ _ _ _ c.loop-i.invariant c.loop-i-test.false
