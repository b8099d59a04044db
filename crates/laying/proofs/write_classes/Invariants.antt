use Rattle.lists.specs.Lent.{sets_in}
use Rattle.laying.proofs.LayingLaws.{Setting}
use Rattle.laying.proofs.write_classes.Given as goal

abbrev pub invariant-loop-i : goal.invariant-loop-i
invariant-loop-i l = Setting (sets_in l.classes) l.initial.out l.out l.at l.end l.i
