-- `onward`: the lanes in which a move to a state before t leads where the level has them.
-- Assumes nothing.
use Rattle.arrows.proofs.LevelLaws.{OnwardTo}
use Rattle.arrows.proofs.levels.onward.Given as goal

abbrev pub invariant-loop-t : goal.invariant-loop-t
invariant-loop-t l = OnwardTo l.s l.table l.level l.q l.t l.word
