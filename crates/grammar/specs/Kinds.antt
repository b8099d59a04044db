-- A word by numbers: its kind, and for a name its bytes.
-- Assumes nothing.
use Rattle.std.specs.Prelude.{ℕ, suc, ◌-◌, List, [], eqb}
use Rattle.model.specs.Words.{choose}
use Rattle.grammar.specs.Grammar.{Token, fixed, name}

-- a name is of kind 0, a fixed word of the kind one more than its number
unfoldable pub kind_of : Token → ℕ
kind_of (fixed k) = suc k
kind_of (name n) = 0

-- the bytes of a name; none of a fixed word
unfoldable pub bytes_of : Token → List ℕ
bytes_of (fixed k) = []
bytes_of (name n) = n

-- the word of a kind that is written with these bytes
unfoldable pub token_as : ℕ → List ℕ → Token
token_as kind bytes = choose (eqb kind 0) (λ _. name bytes) (λ _. fixed (kind - 1))
