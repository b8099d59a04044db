use Rattle.limits.proofs.CountLaws.{Left}
use Rattle.limits.proofs.sets_right.Given as goal

abbrev pub invariant-loop-i : goal.invariant-loop-i
invariant-loop-i l = Left l.classes l.i
