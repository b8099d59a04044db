-- What the walks of the program use: a word moves on and stays inside the text.
-- Assumes nothing.
use Prim.Native.Nat.{ℕ, ◌-◌, ◌<◌, ◌≤◌}
use native.Mathlib.Omega.{arith}
use mathlib.Core.Path.{◌≡◌}
use mathlib.Core.List.{List}
use lib.ListN.{length}
use Rattle.words.specs.Scanning.{Next}

-- a word that is not the end
pub walked : (text : List ℕ) (at kind start end : ℕ) → Next text at kind start end → (kind ≡ 26 → ⊥) → (at ≤ start) × (start < end) × (end ≤ length text)
walked text at kind start end n x = (n.onward, n.moves x, n.inside x)

pub shorter : (text : List ℕ) (at kind start end : ℕ) → Next text at kind start end → (kind ≡ 26 → ⊥) → length text - end < length text - at
shorter text at kind start end n x = let h = walked text at kind start end n x in omega arith
