-- Each state is asked for its commands.
-- Assumes nothing.
use mathlib.Core.Path.{refl}
use borrow.Author.Rules.{rules}
use Rattle.bodies.specs.BodyRules.{none_twice, commands_apart}
use Rattle.bodies.proofs.Every.{each_from_all}
use Rattle.bodies.proofs.checks.none_twice_anywhere.Goals as goal

pub returns : goal.returns
unfolding commands_apart
returns c = let a = c.args in each_from_all _ (none_twice a.states.now a.actions.now) _ _ refl c.all.ensures.ran (λ x b q k. search rules)
