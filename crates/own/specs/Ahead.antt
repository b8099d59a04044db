-- The names that stand behind the words of one kind, up to the first word of another: the text's own states, a state's actions.
-- Assumes nothing.
use Rattle.std.specs.Prelude.{ℕ, List, [], ◌∷◌, eqb}
use Rattle.model.specs.Words.{choose, kept}
use Rattle.grammar.specs.Grammar.{Token, Name}
use Rattle.grammar.specs.Kinds.{kind_of, bytes_of}
use Rattle.words.specs.Scanning.{tokens_from}

-- the bytes of the first word
unfoldable pub first_bytes : List Token → List ℕ
first_bytes [] = []
first_bytes (w ∷ ws) = bytes_of w

-- the names behind the words of a kind, up to the first word of the other kind
unfoldable pub names_ahead : ℕ → ℕ → List Token → List Name
names_ahead kind stop [] = []
names_ahead kind stop (w ∷ ws) = choose (eqb (kind_of w) stop) (λ _. []) (λ _. kept (eqb (kind_of w) kind) (first_bytes ws) (names_ahead kind stop ws))

-- those of a text from a place on
unfoldable pub names_from : List ℕ → ℕ → ℕ → ℕ → List Name
names_from text kind stop at = names_ahead kind stop (tokens_from text at)
