use Rattle.writeclass.proofs.gaps.whens_gap.Given as goal

abbrev pub invariant-loop-w : goal.invariant-loop-w
invariant-loop-w l = Unit {0}
