use Rattle.laying.proofs.LayingLaws.{Zeros}
use Rattle.laying.proofs.put_zeros.Given as goal

abbrev pub invariant-loop : goal.invariant-loop
invariant-loop l = Zeros l.n l.initial.out l.at l.out l.end l.counter
