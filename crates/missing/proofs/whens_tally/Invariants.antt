-- `whens_tally` meets its contract. The loop's invariant, `Summed`: the guards of the first w clauses are tallied.
-- Assumes nothing.
use Rattle.missing.specs.Tallies.{when_tally}
use Rattle.missing.proofs.TallyLaws.{Summed}
use Rattle.missing.proofs.whens_tally.Given as goal

abbrev pub invariant-loop-w : goal.invariant-loop-w
invariant-loop-w l = Summed (when_tally l.names l.g l.whens) l.n l.w l.all
