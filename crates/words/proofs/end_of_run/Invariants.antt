use Rattle.words.proofs.Laws.{Running}
use Rattle.words.proofs.end_of_run.Given as goal

abbrev pub invariant-loop-i : goal.invariant-loop-i
invariant-loop-i l = Running l.text l.at l.i
