-- Each state is asked for its targets.
-- Assumes nothing.
use mathlib.Core.Path.{refl}
use borrow.Author.Rules.{rules}
use Rattle.bodies.specs.BodyRules.{state_targets_right, targets_right}
use Rattle.bodies.proofs.Every.{each_from_all}
use Rattle.bodies.proofs.checks.targets_ok.Goals as goal

pub returns : goal.returns
unfolding targets_right
returns c = let a = c.args in each_from_all _ (state_targets_right a.states.now a.whens.now) _ _ refl c.all.ensures.ran (λ x b q k. search rules)
