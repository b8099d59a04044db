-- The places of the first names, held in a table, and what the functions that look names up promise.
-- Assumes nothing.
use Rattle.std.specs.Prelude.{ℕ, ◌+◌, ◌*◌, ◌/◌, ◌<◌, ◌≤◌, ◌≡◌, Bool, not, Option, Some, None, List, [], ◌∷◌, ◌++◌, length, get_or}
use Rattle.model.specs.Words.{listed}
use Rattle.grammar.specs.Grammar.{Name}
use Rattle.naming.specs.Known.{among}
use Rattle.words.specs.Scanning.{stretch}
use Rattle.own.specs.Ahead.{names_from}

-- neither kind is that of names, and the first is no kind of end
pub record Kinds (kind stop : ℕ) : Type 0 where
  pub above : 0 < kind
  pub below : kind < 26
  pub stopping : 0 < stop

-- the next name from a place on, and those behind it
pub record Here (text : List ℕ) (kind stop at start end : ℕ) : Type 0 where
  pub names : names_from text kind stop at ≡ stretch text start end ∷ names_from text kind stop end
  pub onward : at < end
  pub whole : start ≤ end
  pub inside : end ≤ length text

-- the next name, or that there is none
abbrev pub NextNamed : List ℕ → ℕ → ℕ → ℕ → Option (ℕ × ℕ) → Type 0
NextNamed text kind stop at (Some (start, end)) = Here text kind stop at start end
NextNamed text kind stop at None = names_from text kind stop at ≡ []

-- name i of a table: where it starts and where it ends
abbrev pub held : List ℕ → List ℕ → ℕ → Name
held text table i = stretch text (get_or table (2 * i) 0) (get_or table (2 * i + 1) 0)

-- none of these names
unfoldable pub none_of : List Name → Name → Bool
none_of ns n = not (among ns n)

-- the names that a table holds, and those from a place on
unfoldable pub all_names : List ℕ → List ℕ → ℕ → ℕ → ℕ → ℕ → List Name
all_names text table count kind stop rest = listed 0 count (held text table) ++ names_from text kind stop rest

-- a table holds that many places inside the text
pub record Places (text table : List ℕ) (count : ℕ) : Type 0 where
  pub fits : 2 * count ≤ length table
  pub whole : (i : ℕ) → i < count → get_or table (2 * i) 0 ≤ get_or table (2 * i + 1) 0
  pub inside : (i : ℕ) → i < count → get_or table (2 * i + 1) 0 ≤ length text

-- as many names as a table holds stand before the place from which they go on
pub record Holds (text table : List ℕ) (count rest : ℕ) : Type 0 where
  pub places : Places text table count
  pub fewer : count ≤ rest

-- a table that holds the first names from a place on, as far as it was filled
pub record Filling (text table : List ℕ) (kind stop at count rest : ℕ) : Type 0 where
  pub places : Places text table count
  pub names : all_names text table count kind stop rest ≡ names_from text kind stop at
  pub onward : at + count ≤ rest
  pub inside : 0 < count → rest ≤ length text

-- one that is full, or holds all of them
pub record Filled (text table : List ℕ) (kind stop at count rest : ℕ) : Type 0 where
  pub filling : Filling text table kind stop at count rest
  pub complete : count < length table / 2 → names_from text kind stop rest ≡ []
