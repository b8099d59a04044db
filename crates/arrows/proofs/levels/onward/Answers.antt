-- `onward`: the lanes in which a move to a state before t leads where the level has them.
-- Assumes nothing.
use Rattle.arrows.proofs.LevelLaws.{onward_start, onward_more, onward_end}
use Rattle.arrows.proofs.levels.onward.Goals as goal

pub loop-t-init : goal.loop-t-init
loop-t-init c = onward_start _ _ _ _

pub loop-t-preserved : goal.loop-t-preserved
loop-t-preserved c = onward_more _ _ _ _ _ _ c.loop-t.invariant c.loop-t-test.true (λ x. (c.type_inv.table x).fits) (λ x. (c.type_inv.level x).fits)

pub returns : goal.returns
returns c = onward_end _ _ _ _ _ _ c.loop-t.invariant c.loop-t-test.false
