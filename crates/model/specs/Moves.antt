-- A node with fixed children is a partial function on its own states: where its next move leads, if it makes one.
-- What ending and returning mean, with no bound on the moves, and the tests that S moves allow.
-- Assumes nothing.
use Rattle.std.specs.Prelude.{ℕ, zero, suc, ◌<◌, ◌≡◌, Bool, true, false, eqb}
use Rattle.std.proofs.Math.Option.{Option, none, some}
use Rattle.model.specs.Words.{maybe, is_some, some_below}

abbrev pub Next : Type 0
Next = ℕ → Option ℕ

-- where n moves lead from q, if so many can be made
unfoldable pub after : Next → ℕ → ℕ → Option ℕ
after next zero q = some q
after next (suc n) q = maybe (next q) (λ _. none) (after next n)

-- n moves can be made from q
unfoldable pub can : Next → ℕ → ℕ → Bool
can next n q = is_some (after next n q)

-- n moves lead from q to r, and there the phase ends
pub record EndsAt (next : Next) (q n r : ℕ) : Type 0 where
  pub reached : after next n q ≡ some r
  pub ended : next r ≡ none

-- the phase from q ends: some number of moves, with no bound set, leads to where it ends
abbrev pub Ends : Next → ℕ → Type 0
Ends next q = (n : ℕ) × (r : ℕ) × EndsAt next q n r

-- q returns to itself by one move or more
abbrev pub Returns : Next → ℕ → Type 0
Returns next q = (n : ℕ) × (after next (suc n) q ≡ some q)

-- every move leads to a state below S
abbrev pub Within : Next → ℕ → Type 0
Within next S = (q t : ℕ) → next q ≡ some t → t < S

abbrev pub is_at : ℕ → Option ℕ → Bool
is_at q none = false
is_at q (some r) = eqb r q

-- q returns to itself by at most S moves
unfoldable pub returns_soon : Next → ℕ → ℕ → Bool
returns_soon next S q = some_below S (λ n. is_at q (after next (suc n) q))

-- S moves decide: what is shown of each q below S, for a next that stays within S states
pub record Decided (next : Next) (S q : ℕ) : Type 0 where
  -- a phase that ends does so in fewer than S moves
  pub ends_early : Ends next q → (n : ℕ) × (r : ℕ) × (n < S) × EndsAt next q n r
  -- where S moves cannot be made the phase ends
  pub ends_if : after next S q ≡ none → Ends next q
  -- where S moves can be made it never ends
  pub never_ends : (r : ℕ) → after next S q ≡ some r → Ends next q → ⊥
  -- and fewer than S moves lead to a state that returns to itself
  pub reaches_loop : (r : ℕ) → after next S q ≡ some r → (n : ℕ) × (s : ℕ) × (n < S) × (after next n q ≡ some s) × Returns next s
  -- a state returns to itself exactly if it does so by at most S moves
  pub returns_if : returns_soon next S q ≡ true → Returns next q
  pub returns_only_if : Returns next q → returns_soon next S q ≡ true
