-- Each command before is asked whether it is another.
-- Assumes nothing.
use mathlib.Core.Path.{refl}
use borrow.Author.Rules.{rules}
use mathlib.Core.Bool.{not}
use lib.Dec.{eqb}
use Prim.Native.Nat.{◌+◌}
use Rattle.bodies.specs.Clauses.{action_command}
use Rattle.bodies.specs.BodyRules.{new_command}
use Rattle.bodies.proofs.Every.{each_from_all}
use Rattle.bodies.proofs.checks.command_is_new.Goals as goal

pub returns : goal.returns
unfolding new_command
returns c = let a = c.args in each_from_all _ (λ j. not (eqb (action_command a.actions.now (a.first + j)) (action_command a.actions.now (a.first + a.i)))) _ _ refl c.all.ensures.ran (λ x b q k. search rules)
