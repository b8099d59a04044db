-- The paper's number of each case of what a probe and a settled phase give, and the values behind it.
-- Assumes nothing.
use Rattle.std.specs.Prelude.{ℕ, List, [], ◌∷◌}
use Rattle.model.specs.Tree.{Referrer, move_to, run, stay}
use Rattle.model.specs.Node.{Probed, nothing, found, Ending, by_none, by_stay, by_do}

-- 0 MOVE_TO, 1 DO, 2 STAY, and the target
abbrev pub referrer_values : Referrer → List ℕ
referrer_values (move_to t) = 0 ∷ t ∷ []
referrer_values (run a) = 1 ∷ a ∷ []
referrer_values stay = 2 ∷ 0 ∷ []

-- 0 none; 1 a clause: its number within the state, its referrer and target
abbrev pub probed_values : Probed → List ℕ
probed_values nothing = 0 ∷ []
probed_values (found i r) = 1 ∷ i ∷ referrer_values r

-- a phase that settles, 0 by none, 1 by STAY, 2 by DO: the state, the moves, the number of bytes written, the command of the closing DO
abbrev pub settled_values : Ending → ℕ → ℕ → ℕ → List ℕ
settled_values by_none q m n = 0 ∷ q ∷ m ∷ n ∷ []
settled_values by_stay q m n = 1 ∷ q ∷ m ∷ n ∷ []
settled_values (by_do c) q m n = 2 ∷ q ∷ m ∷ n ∷ c ∷ []

-- 3, a phase that loops: the state, the moves, and no byte written
abbrev pub loop_values : ℕ → ℕ → List ℕ
loop_values q m = 3 ∷ q ∷ m ∷ 0 ∷ []
