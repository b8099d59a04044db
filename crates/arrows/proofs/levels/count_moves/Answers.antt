-- `count_moves`: after n rounds the level has the lanes in which n moves can be made.
-- Assumes nothing.
use native.Mathlib.Omega.{arith}
use mathlib.Core.Path.{refl}
use Rattle.arrows.proofs.LevelLaws.{leveled_start, leveled_more, leveled_none, leveled_end}
use Rattle.arrows.proofs.levels.count_moves.Goals as goal

pub loop-n-init : goal.loop-n-init
loop-n-init c = let p = c.requires in (refl, leveled_start _ _ _ p.0.few p.1 (omega arith))

pub returns-then-all-eq0 : goal.returns-then-all-eq0
returns-then-all-eq0 c = leveled_none _ _ _ _ _ _ _ _ c.loop-n.invariant.1 c.round-all.ensures c.loop-n-test.true c.if-all-eq0.true

pub loop-n-preserved : goal.loop-n-preserved
loop-n-preserved c = (c.round-all.auto.next, leveled_more _ _ _ _ _ _ _ _ c.loop-n.invariant.1 c.round-all.ensures c.loop-n-test.true c.if-all-eq0.false)

pub returns : goal.returns
returns c = leveled_end _ _ _ _ _ _ c.loop-n.invariant.1 c.loop-n-test.false c.requires.1
