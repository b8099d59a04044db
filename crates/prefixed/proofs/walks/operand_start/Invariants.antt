-- `prefixed::walks::operand_start` meets its contract. The loop's invariant: the keys from i on are of the left operand.
-- Assumes nothing.
use Rattle.prefixed.proofs.WalkLaws.{Back}
use Rattle.prefixed.proofs.walks.operand_start.Given as goal

abbrev pub invariant-loop-i : goal.invariant-loop-i
invariant-loop-i l = Back l.keys l.first l.count l.key l.i
