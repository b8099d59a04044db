use Rattle.readclass.proofs.sizing.limit_passed.Given as goal

abbrev pub invariant-loop-limit : goal.invariant-loop-limit
invariant-loop-limit l = Unit {0}
