-- What it is to know where a text goes wrong, or that it does not.
-- Assumes nothing.
use Rattle.std.specs.Prelude.{ℕ, ◌≡◌, List, Result, Ok, Err}
use Rattle.grammar.specs.Grammar.{Text}
use Rattle.grammar.specs.Reading.{Says, WrongAt}

-- it goes wrong there; it is a text of the grammar
unfoldable pub Recognised : List ℕ → Result (Unit {0}) ℕ → Type 0
Recognised text (Err p) = WrongAt text p
Recognised text (Ok u) = (t : Text) × Says text t

-- the promise leaves one answer
abbrev pub Unique : Type 0
Unique = (text : List ℕ) (r s : Result (Unit {0}) ℕ) → Recognised text r → Recognised text s → r ≡ s
