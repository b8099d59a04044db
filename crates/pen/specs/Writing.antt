-- What it is to write bytes into a lent buffer from a place on.
-- Assumes nothing.
use Rattle.std.specs.Prelude.{ℕ, ◌+◌, ◌/◌, ◌%◌, ◌≤◌, min, ◌≡◌, List, [], ◌∷◌, length}
use Rattle.std.proofs.lemmas.List.Edits.{sets}

-- the last place that a number has
abbrev pub last_place : ℕ
last_place = 18446744073709551615

-- the place n behind another, and never one that no number has
abbrev pub behind : ℕ → ℕ → ℕ
behind at n = min (at + n) last_place

-- a number in two bytes, low byte first
abbrev pub two : ℕ → List ℕ
two n = n % 256 ∷ n / 256 % 256 ∷ []

-- the bytes were stored from a place on, as far as the buffer reaches; r is the place behind them
pub record Puts (bytes before : List ℕ) (at : ℕ) (after : List ℕ) (r : ℕ) : Type 0 where
  pub room : length before ≤ last_place
  pub buffer : after ≡ sets before at bytes
  pub place : r ≡ behind at (length bytes)
