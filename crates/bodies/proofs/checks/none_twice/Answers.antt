-- Each command of the state is asked whether it is new; the state's counts are those that the rule names.
-- Assumes nothing.
use Prim.Native.Nat.{ℕ}
use mathlib.Core.Path.{refl, ap, ◌∙◌}
use Rattle.model.specs.Words.{each}
use borrow.Author.Rules.{rules}
use Rattle.bodies.specs.Clauses.{first_action}
use Rattle.bodies.specs.BodyRules.{new_command, none_twice}
use Rattle.bodies.proofs.Every.{each_from_all}
use Rattle.bodies.proofs.checks.none_twice.Goals as goal

pub returns : goal.returns
unfolding none_twice
returns c =
    let a = c.args in
    let t = new_command a.actions.now (first_action a.states.now a.q) in
    each_from_all _ t _ _ refl c.all.ensures.ran (λ x b q k. search rules) ∙ ap (λ (n : ℕ). each n t) c.count_at.ensures.0
