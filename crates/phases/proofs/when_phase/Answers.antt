-- `when_phase`: walked on no buffer, to count, and then on as much of it as is sent.
-- Assumes nothing.
use mathlib.Core.Path.{refl}
use Rattle.running.proofs.SendLaws.{none_before}
use Rattle.phases.proofs.PhasingLaws.{short_told, settled_told, loops_told}
use Rattle.phases.proofs.when_phase.Goals as goal

pub returns-then-out-needed : goal.returns-then-out-needed
returns-then-out-needed c = short_told _ _ _ _ _ _ _ (rw c.in-Settled.is at c.walk-counted.ensures) _ _ (none_before c.walk-counted.new.out _ c.walk-counted.auto.out) c.if-out-needed.true

pub returns-else-out-needed : goal.returns-else-out-needed
returns-else-out-needed c = settled_told _ _ _ _ _ _ _ (rw c.in-Settled.is at c.walk-counted.ensures) _ _ _ _ _ (none_before c.walk-counted.new.out _ c.walk-counted.auto.out) c.if-out-needed.false c.walk.ensures refl

pub returns-in-Loops : goal.returns-in-Loops
returns-in-Loops c = rw c.in-Loops.is (loops_told _ _ _ _ _ (rw c.in-Loops.is at c.walk-counted.ensures) _ _ (none_before c.walk-counted.new.out _ c.walk-counted.auto.out))
