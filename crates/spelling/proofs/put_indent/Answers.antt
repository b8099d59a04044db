-- `put_indent` meets its contract. The loop's invariant: whoever writes the levels that are left has written all.
-- Assumes nothing.
use Prim.Native.Nat.{◌-◌}
use native.Mathlib.Omega.{arith}
use mathlib.Core.Path.{◌≡◌}
use Rattle.pen.proofs.Puts.{going_none, going_on, going_end}
use Rattle.spelling.proofs.SpellingLaws.{level_on, level_none}
use Rattle.spelling.proofs.put_indent.Goals as goal

pub loop-init : goal.loop-init
loop-init c = let e : c.args.level - 0 ≡ c.args.level = omega arith in rw e (going_none _ _ _ (omega arith))

pub loop-preserved : goal.loop-preserved
loop-preserved c = going_on c.loop.invariant (level_on _ _ c.loop-test.true) c.put_bytes-end.ensures

pub returns : goal.returns
returns c = going_end c.loop.invariant (level_none _ _ c.loop-test.false) (omega arith)
