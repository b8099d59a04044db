-- Each target of the state is asked; the state's counts are those that the rule names.
-- Assumes nothing.
use Prim.Native.Nat.{ℕ, ◌+◌}
use mathlib.Core.Path.{refl, ap, ◌∙◌}
use Rattle.model.specs.Words.{each}
use Rattle.bodies.proofs.CheckLaws.{target_in}
use borrow.Author.Rules.{rules}
use Rattle.records.specs.Bytes.{in_fours}
use Rattle.bodies.specs.Clauses.{action_count, first_when}
use Rattle.bodies.specs.BodyRules.{target_right, state_targets_right}
use Rattle.bodies.proofs.Every.{each_from_all}
use Rattle.bodies.proofs.checks.state_targets_ok.Goals as goal

pub returns : goal.returns
unfolding state_targets_right
returns c =
    let a = c.args in
    let t = λ (i : ℕ). target_right (in_fours a.states.now) (action_count a.states.now a.q) a.whens.now (first_when a.states.now a.q + i) in
    each_from_all _ t _ _ refl c.all.ensures.ran (λ x b q k. search (rules, target_in)) ∙ ap (λ (n : ℕ). each n t) c.count_at.ensures.0
