-- How many moves can be made in the lanes of a block.
-- Assumes nothing.
use Rattle.std.specs.Prelude.{Result, Ok, Err, ℕ, zero, suc, ◌<◌, ◌≤◌, ◌≡◌, Bool, true, false, ◌&&◌, List, ◌⊎◌, length, get_or}
use Rattle.model.specs.Words.{has, some_below}
use Rattle.lanes.specs.Lanes.{Lanes}
use Rattle.sweeps.specs.Sweeps.{move_word}

-- in lane i n moves can be made from state q: a move leads to a state below s from which one less can be made
unfoldable pub lane_can : ℕ → List ℕ → ℕ → ℕ → ℕ → ℕ → Bool
lane_can s table counted zero q i = has counted i
lane_can s table counted (suc n) q i = some_below s (λ t. has (move_word table q t) i && lane_can s table counted n t i)

-- in lane i n moves can be made from some state below s
abbrev pub some_can : ℕ → List ℕ → ℕ → ℕ → ℕ → Bool
some_can s table counted n i = some_below s (λ q. lane_can s table counted n q i)

-- no lane makes more than n moves, and one makes n if n is not 0
pub record LongestIs (s : ℕ) (table : List ℕ) (counted n : ℕ) : Type 0 where
  pub fewer : n < s
  pub none_more : (i q : ℕ) → i < 64 → q < s → lane_can s table counted (suc n) q i ≡ false
  pub one_makes : (n ≡ 0) ⊎ ((i : ℕ) × (q : ℕ) × (i < 64) × (q < s) × (lane_can s table counted n q i ≡ true))

-- the lanes in which s moves can be made, of which there are some; or none makes so many
abbrev pub LevelsAre : ℕ → List ℕ → ℕ → Result ℕ ℕ → Type 0
LevelsAre s table counted (Err w) = Lanes w (some_can s table counted s) × (w ≡ 0 → ⊥)
LevelsAre s table counted (Ok n) = LongestIs s table counted n

-- the table that is lent
pub record LevelsLent (s : ℕ) (table : List ℕ) : Type 0 where
  pub few : s ≤ 32
  pub of_table : length table ≡ 1280

-- the lanes in which a move from state q leads to a state that has them in its level
abbrev pub Onward : ℕ → List ℕ → List ℕ → ℕ → ℕ → Type 0
Onward s table level q r = Lanes r (λ i. some_below s (λ t. has (move_word table q t) i && has (get_or level t 0) i))

-- word q of the level, for each q below m, has the lanes in which n moves can be made from q
pub record Level (s : ℕ) (table : List ℕ) (counted n m : ℕ) (level : List ℕ) : Type 0 where
  pub word : (q : ℕ) → q < m → Lanes (get_or level q 0) (lane_can s table counted n q)

-- from a level to the next of the first m states, and the lanes that are in any of them
pub record Rounds (s : ℕ) (table level : List ℕ) (m : ℕ) (next : List ℕ) (all : ℕ) : Type 0 where
  pub round : (counted n : ℕ) → Level s table counted n s level → Level s table counted (suc n) m next
  pub union : (counted n : ℕ) → Level s table counted n s level → Lanes all (λ i. some_below m (λ q. lane_can s table counted (suc n) q i))
