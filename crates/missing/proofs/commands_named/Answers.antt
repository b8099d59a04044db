-- `commands_named` meets its contract. The loop's invariant: the commands of the first a action clauses have names.
-- Assumes nothing.
use mathlib.Core.Path.{sym}
use Rattle.model.proofs.Words.{each_none, each_so_far, each_all, each_broken}
use Rattle.missing.specs.Tallies.{commands_named}
use Rattle.missing.proofs.SetLaws.{command_missing, command_there}
use Rattle.missing.proofs.commands_named.Goals as goal

pub loop-a-init : goal.loop-a-init
loop-a-init c = each_none _

pub returns-then-commands-action_command : goal.returns-then-commands-action_command
unfolding commands_named
returns-then-commands-action_command c = sym (each_broken _ _ _ c.loop-a-test.true (command_missing _ _ _ _ c.action_command.ensures c.if-commands-action_command.true))

pub loop-a-preserved : goal.loop-a-preserved
loop-a-preserved c = each_so_far _ _ c.loop-a.invariant (command_there _ _ _ _ c.action_command.ensures c.if-commands-action_command.false)

pub returns : goal.returns
unfolding commands_named
returns c = sym (each_all _ _ _ c.loop-a.auto.a-end c.loop-a-test.false c.loop-a.invariant)
