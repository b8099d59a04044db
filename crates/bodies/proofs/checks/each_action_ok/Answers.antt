-- Each action clause is asked.
-- Assumes nothing.
use mathlib.Core.Path.{refl}
use borrow.Author.Rules.{rules}
use Rattle.bodies.specs.BodyRules.{action_right, actions_plain}
use Rattle.bodies.proofs.Every.{each_from_all}
use Rattle.bodies.proofs.checks.each_action_ok.Goals as goal

pub returns : goal.returns
unfolding actions_plain
returns c = let a = c.args in each_from_all _ (action_right a.actions.now) _ _ refl c.all.ensures.ran (λ x b q k. search rules)
