use Rattle.writeclass.proofs.gaps.actions_gap.Given as goal

abbrev pub invariant-loop-a : goal.invariant-loop-a
invariant-loop-a l = Unit {0}
