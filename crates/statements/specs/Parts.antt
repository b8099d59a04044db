-- What the function that counts a part ahead promises.
-- Assumes nothing.
use Rattle.std.specs.Prelude.{ℕ, ◌≡◌, List, eqb}
use Rattle.model.specs.Words.{choose}
use Rattle.words.specs.Scanning.{tokens_from}
use Rattle.statements.specs.Statements.{part_ahead, else_size}

-- the size of the else-part that stands at a place behind a word of that kind
abbrev pub else_at : List ℕ → ℕ → ℕ → ℕ
else_at text kind end = choose (eqb kind 13) (λ _. (part_ahead 0 0 (tokens_from text end)).size) (λ _. 0)

-- the part from a place on has that many statements; a word of that kind ends it, and behind that an else-part may stand
pub record PartEnds (text : List ℕ) (at size kind end : ℕ) : Type 0 where
  pub counted : size ≡ (part_ahead 0 0 (tokens_from text at)).size
  pub other : else_size (part_ahead 0 0 (tokens_from text at)).behind ≡ else_at text kind end
