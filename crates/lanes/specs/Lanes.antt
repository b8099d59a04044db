-- Words of 64 lanes, and the lanes of a block of configurations.
-- Assumes nothing.
use Rattle.std.specs.Prelude.{ℕ, ◌+◌, ◌-◌, ◌^◌, ◌<◌, ◌≡◌, Bool}
use Rattle.model.specs.Words.{has, maybe, least}

-- a word of 64 bits, whose bit i is f i
pub record Lanes (w : ℕ) (f : ℕ → Bool) : Type 0 where
  pub narrow : w < 2 ^ 64
  pub lane : (i : ℕ) → i < 64 → has w i ≡ f i

-- all lanes
abbrev pub all_lanes : ℕ
all_lanes = 18446744073709551615

-- the lanes that a word has not
abbrev pub opposite : ℕ → ℕ
opposite w = all_lanes - w

-- a test of configurations, in the lanes of the block at base
abbrev pub in_block : ℕ → (ℕ → Bool) → ℕ → Bool
in_block base f i = f (base + i)

-- the lowest lane of a word; 64 where it has none
unfoldable pub lowest_lane : ℕ → ℕ
lowest_lane w = maybe (least 64 (has w)) (λ _. 64) (λ i. i)
