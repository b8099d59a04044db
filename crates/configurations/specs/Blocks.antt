-- Configurations in blocks of 64: what is known of one block, and of all blocks before a base.
-- Assumes nothing.
use Rattle.std.specs.Prelude.{ℕ, suc, ◌+◌, ◌<◌, ◌≤◌, ◌≡◌, true, false, ◌⊎◌}
use Rattle.model.specs.Tree.{Class}
use Rattle.model.specs.Moves.{Next, can}
use Rattle.model.specs.Node.{own_states, next}
use Rattle.configurations.specs.Configurations.{list_of}
use Rattle.configurations.specs.LoopAnswer.{counts, has_loop, longest_in}

-- the moves of the node in configuration k
abbrev pub next_in : Class → ℕ → ℕ → Next
next_in c present k = next c (list_of c present k)

-- in the block at base no configuration that counts makes more than n moves, and one makes n, if n is not 0
pub record BlockLongest (c : Class) (present base n : ℕ) : Type 0 where
  pub fewer : n < own_states c
  pub none_more : (i q : ℕ) → i < 64 → q < own_states c → counts c present (base + i) ≡ true → can (next_in c present (base + i)) (suc n) q ≡ false
  pub one_makes : (n ≡ 0) ⊎ ((i : ℕ) × (q : ℕ) × (i < 64) × (q < own_states c) × (counts c present (base + i) ≡ true) × (can (next_in c present (base + i)) n q ≡ true))

-- the configurations below base have no loop, and `longest` is the largest number of moves in them
pub record SearchedTo (c : Class) (present base longest : ℕ) : Type 0 where
  pub no_loop : (k : ℕ) → k < base → has_loop c present k ≡ false
  pub bound : (k : ℕ) → k < base → longest_in c present k ≤ longest
  pub made : (longest ≡ 0) ⊎ ((k : ℕ) × (k < base) × (longest_in c present k ≡ longest))
