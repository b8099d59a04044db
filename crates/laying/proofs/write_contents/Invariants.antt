use Rattle.laying.proofs.LayingLaws.{Listing}
use Rattle.laying.proofs.write_contents.Given as goal

abbrev pub invariant-loop-k : goal.invariant-loop-k
invariant-loop-k l = Listing l.fn.sizes l.initial.out l.out l.end l.start l.k-index
