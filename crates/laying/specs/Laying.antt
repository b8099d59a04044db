-- The bytes of a sheet's contents, of a name set, and behind a name.
-- Assumes nothing.
use Rattle.std.specs.Prelude.{ℕ, ◌+◌, ◌-◌, ◌/◌, ◌%◌, List, [], ◌∷◌, ◌++◌, map}
use Rattle.model.specs.Words.{listed}
use Rattle.naming.specs.NameLists.{padded}
use Rattle.naming.specs.Naming.{joined}
use Rattle.pen.specs.Writing.{two}

-- an entry of the contents: where a body starts, and its length
unfoldable pub entry : ℕ → ℕ → List ℕ
entry start size = two start ++ two size

-- the entries of bodies of these lengths, which follow one another from a place on
unfoldable pub contents_bytes : ℕ → List ℕ → List ℕ
contents_bytes start [] = []
contents_bytes start (size ∷ sizes) = entry start size ++ contents_bytes (start + size) sizes

-- a number in four bytes
unfoldable pub number_bytes : ℕ → List ℕ
number_bytes n = entry (n % 65536) (n / 65536)

-- the zeros behind the first n of 32 bytes
unfoldable pub zeros_behind : ℕ → List ℕ
zeros_behind n = listed 0 (32 - n) (λ _. 0)

-- name sets, one behind the other
unfoldable pub sets_bytes : List ℕ → List ℕ
sets_bytes [] = []
sets_bytes (s ∷ sets) = number_bytes s ++ sets_bytes sets

-- names' records, one behind the other
unfoldable pub table_bytes : List (List ℕ) → List ℕ
table_bytes names = joined (map padded names)
