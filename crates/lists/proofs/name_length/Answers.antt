-- `name_length` meets its contract. The loop's invariant, `Reading`: the first n bytes are characters, and those behind them are still to be read.
-- Assumes nothing.
use native.Mathlib.Omega.{arith}
use mathlib.Core.Path.{◌≡◌}
use lib.ListN.{length}
use Rattle.lists.proofs.RecordLaws.{reading_none, reading_on, reading_found, reading_over}
use Rattle.lists.proofs.name_length.Goals as goal

pub loop-n-init : goal.loop-n-init
loop-n-init c = reading_none _

pub returns-then-x-eq0 : goal.returns-then-x-eq0
returns-then-x-eq0 c = reading_found _ _ c.loop-n.invariant c.loop-n-test.true c.if-x-eq0.true

pub loop-n-preserved : goal.loop-n-preserved
loop-n-preserved c = reading_on _ _ c.loop-n.invariant c.loop-n-test.true c.if-x-eq0.false

pub returns : goal.returns
returns c =
    let e : length c.args.bytes.now ≡ c.loop-n.n = omega (arith, c.loop-n.auto.n-end, c.loop-n-test.false) in
    rw e (reading_over _ _ c.loop-n.invariant c.loop-n-test.false)
