-- What the readers of an accepted sheet answer: places by number, and a state's clauses.
-- Assumes nothing.
use Rattle.std.specs.Prelude.{ℕ, ◌<◌, ◌≤◌, ◌≡◌, List, [], ◌∷◌, get_or}
use Rattle.bodies.specs.Clauses.{count_at, count_sum}
use Rattle.sheet.specs.declared.judging.Places.{Places}
use Rattle.accepted.specs.declared.readers.Run.{Run}

-- where body k starts; past the last, the end
abbrev pub place_at : Places → ℕ → ℕ → ℕ
place_at p end k = get_or (p.classes ∷ p.states ∷ p.whens ∷ p.guards ∷ p.actions ∷ p.statements ∷ []) k end

-- the clauses of state q whose count stands at an offset: the first and their number, small enough to be added
pub record RunIs (r : Run) (states : List ℕ) (offset q : ℕ) : Type 0 where
  pub first_is : r.first ≡ count_sum states offset q
  pub count_is : r.count ≡ count_at states offset q
  pub first_small : r.first ≤ 67108864
  pub count_small : r.count < 65536
