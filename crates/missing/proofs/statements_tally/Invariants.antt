-- `statements_tally` meets its contract. The loop's invariant, `Summed`: the first i records are tallied.
-- Assumes nothing.
use Rattle.records.specs.Bytes.{record_at}
use Rattle.missing.specs.Tallies.{statement_tally}
use Rattle.missing.proofs.TallyLaws.{Summed}
use Rattle.missing.proofs.statements_tally.Given as goal

abbrev pub invariant-loop-i : goal.invariant-loop-i
invariant-loop-i l = Summed (λ j. statement_tally l.names l.commands l.g (record_at l.statements j)) l.n l.i l.all
