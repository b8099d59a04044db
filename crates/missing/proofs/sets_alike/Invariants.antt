-- `sets_alike` meets its contract. The loop's invariant, `Alike`: the first i sets are the same, and the others decide.
-- Assumes nothing.
use Rattle.missing.proofs.SetLaws.{Alike}
use Rattle.missing.proofs.sets_alike.Given as goal

abbrev pub invariant-loop-i : goal.invariant-loop-i
invariant-loop-i l = Alike l.classes l.sets l.n l.i
