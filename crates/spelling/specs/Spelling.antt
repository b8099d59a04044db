-- What the writers of the names of a set promise.
-- Assumes nothing.
use Rattle.std.specs.Prelude.{ℕ, ◌+◌, ◌-◌, ◌<◌, ◌≡◌, List, [], ◌∷◌, ◌++◌, map, Option, MatchOption}
use Rattle.model.specs.Words.{keep, listed, has}
use Rattle.grammar.specs.Grammar.{Name}
use Rattle.grammar.specs.Words.{spelled}
use Rattle.writings.specs.Layout.{name_at, commas}

-- the numbers of a set's names from number i on, in rising order
unfoldable pub numbers_from : ℕ → ℕ → List ℕ
numbers_from s i = keep (has s) (listed i (32 - i) (λ j. j))

-- the names
abbrev pub names_from : List ℕ → ℕ → ℕ → List Name
names_from names s i = map (name_at 32 names) (numbers_from s i)

-- NAME, NAME, NAME
unfoldable pub row : List Name → List ℕ
row [] = []
row (n ∷ ns) = n ++ commas ns

-- {NAME, NAME, NAME}
unfoldable pub braced : List Name → List ℕ
braced ns = spelled "{" ++ row ns ++ spelled "}"

-- o is the first number of the set's, or none where the set is empty
abbrev pub First : ℕ → Option ℕ → Type 0
First s o = MatchOption o (numbers_from s 0 ≡ []) (λ r. (r < 32) × (numbers_from s 0 ≡ r ∷ numbers_from s (r + 1)))
