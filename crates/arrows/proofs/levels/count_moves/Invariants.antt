-- `count_moves`: after n rounds the level has the lanes in which n moves can be made.
-- Assumes nothing.
use mathlib.Core.Path.{◌≡◌}
use lib.ListN.{length}
use Rattle.arrows.proofs.LevelLaws.{Leveled}
use Rattle.arrows.proofs.levels.count_moves.Given as goal

abbrev pub invariant-loop-n : goal.invariant-loop-n
invariant-loop-n l = (length l.level ≡ 32) × Leveled l.s l.table l.counted l.n l.level l.all
