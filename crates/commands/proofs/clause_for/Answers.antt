-- The loop's invariant: no clause that it passed is for the command.
-- Assumes nothing.
use native.Mathlib.Omega.{arith}
use Rattle.commands.proofs.ClauseLaws.{passed_more, search_ends, search_finds}
use Rattle.commands.proofs.clause_for.Goals as goal

pub loop-i-init : goal.loop-i-init
loop-i-init c = λ j l. absurd (omega arith)

pub loop-i-preserved : goal.loop-i-preserved
loop-i-preserved c = passed_more c.body-actions.result.now c.clauses_of-clauses.result.first _ _ _ c.loop-i.invariant c.action_command.ensures c.if-action_command-command.false

pub returns-then-action_command-command : goal.returns-then-action_command-command
returns-then-action_command-command c = search_finds _ _ _ _ _ _ _ c.body-actions.ensures c.clauses_of-clauses.ensures.first_is c.clauses_of-clauses.ensures.count_is c.loop-i.invariant _ c.loop-i-test.true c.action_command.ensures c.if-action_command-command.true

pub returns : goal.returns
returns c = search_ends _ _ _ _ _ _ _ c.body-actions.ensures c.clauses_of-clauses.ensures.first_is c.clauses_of-clauses.ensures.count_is c.loop-i.invariant c.loop-i-test.false
