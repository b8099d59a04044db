-- The loop's invariant: no clause that it passed is for the command.
-- Assumes nothing.
use Rattle.commands.proofs.ClauseLaws.{Passed}
use Rattle.commands.proofs.clause_for.Given as goal

abbrev pub invariant-loop-i : goal.invariant-loop-i
invariant-loop-i l = Passed l.actions l.first l.command l.i
