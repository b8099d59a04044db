-- `commands_named` meets its contract. The loop's invariant: the commands of the first a action clauses have names.
-- Assumes nothing.
use mathlib.Core.Path.{◌≡◌}
use mathlib.Core.Bool.{true}
use Rattle.model.specs.Words.{each}
use Rattle.missing.specs.Tallies.{command_named}
use Rattle.missing.proofs.commands_named.Given as goal

abbrev pub invariant-loop-a : goal.invariant-loop-a
invariant-loop-a l = each l.a (command_named l.commands l.actions) ≡ true
