-- Refusals 10 and 11, as one number.
-- Assumes nothing.
use Rattle.std.specs.Prelude.{ℕ, List, ltb}
use Rattle.model.specs.Words.{choose}
use Rattle.model.specs.Tree.{Class}
use Rattle.model.specs.Node.{own_states}
use Rattle.children.specs.ChildList.{list_right}

-- 10, 11, or 0 where neither is given
unfoldable pub placed_refusal : Class → List ℕ → ℕ → ℕ
placed_refusal c l q = choose (list_right c l) (λ _. choose (ltb q (own_states c)) (λ _. 0) (λ _. 11)) (λ _. 10)
