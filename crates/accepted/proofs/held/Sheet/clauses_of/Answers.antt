-- `clauses_of` sums the counts before state q and reads q's own.
-- Assumes nothing.
use native.Mathlib.Omega.{arith}
use mathlib.Core.Path.{◌∙◌, ap}
use mathlib.Core.List.{List}
use Prim.Native.Nat.{ℕ}
use Rattle.bodies.specs.Clauses.{count_at, count_sum}
use Rattle.accepted.proofs.held.Sheet.clauses_of.Goals as goal

pub returns : goal.returns
returns c =
    let b = c.body-states.ensures in
    let a = c.args in
    record {
      first_is = c.count_sum-first.ensures.0 ∙ ap (λ (l : List ℕ). count_sum l a.offset a.q.0) b;
      count_is = c.count_at-count.ensures.0 ∙ ap (λ (l : List ℕ). count_at l a.offset a.q.0) b;
      first_small = omega arith;
      count_small = c.count_at-count.ensures.1;
    }
