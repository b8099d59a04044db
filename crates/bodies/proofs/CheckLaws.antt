-- Laws about the counts, targets and commands of a sheet, in the terms that the checks have.
-- Assumes nothing.
use Prim.Native.Nat.{ℕ, ◌+◌, ◌*◌, ◌≤◌}
use native.Mathlib.Numerals.{add-one}
use native.Mathlib.Omega.{arith}
use mathlib.Core.Path.{◌≡◌, refl}
use mathlib.Core.List.{List}
use lib.ListN.{length, get_or-eq_default}
use Rattle.model.specs.Words.{total}
use Rattle.records.specs.Bytes.{in_fours}
use Rattle.bodies.specs.Clauses.{count_at, count_sum}
use Rattle.bodies.specs.BodyRules.{target_right}

-- the sum over no records, and over one record more
pub sum_none : (b : List ℕ) (offset : ℕ) → 0 ≡ count_sum b offset 0
unfolding count_sum total
sum_none b offset = refl

pub sum_next : (b : List ℕ) (offset i s k : ℕ) → s ≡ count_sum b offset i → k ≡ count_at b offset i → s + k ≡ count_sum b offset (i + 1)
unfolding count_sum total
sum_next b offset i s k e h = rw (add-one, e, h)

-- a record past the last counts nothing
pub past_count : (s : List ℕ) (offset q : ℕ) → length s ≡ in_fours s * 4 → in_fours s ≤ q → count_at s offset q ≡ 0
past_count s offset q e l =
    let x : length s ≤ q * 4 + offset = omega arith in
    let y : length s ≤ q * 4 + offset + 1 = omega arith in
    rw (get_or-eq_default s 0 x, get_or-eq_default s 0 y)

-- a target is judged in its state, whose numbers were read before
pub target_in : (S : ℕ) (whens : List ℕ) (i : ℕ) {a a' f f' : ℕ} → a ≡ a' → f ≡ f' → target_right S a whens (f + i) ≡ target_right S a' whens (f' + i)
target_in S whens i p q = rw (p, q)
