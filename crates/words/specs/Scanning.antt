-- The words of a text from a place on, and what the function that finds the next one promises.
-- Assumes nothing.
use Rattle.std.specs.Prelude.{ℕ, ◌+◌, ◌-◌, ◌<◌, ◌≤◌, ◌≡◌, false, List, [], ◌∷◌, eqb, length, get_or, drop, take}
use Rattle.model.specs.Words.{choose}
use Rattle.grammar.specs.Grammar.{Token}
use Rattle.grammar.specs.Words.{Word, white, run_length, cut, tokens}
use Rattle.grammar.specs.Kinds.{token_as}

-- the words from a place on; past the end of the text the end alone
unfoldable pub words_from : List ℕ → ℕ → List Word
words_from text at = cut 0 at (drop at text)

-- which they are
unfoldable pub tokens_from : List ℕ → ℕ → List Token
tokens_from text at = tokens (words_from text at)

-- the bytes from a place to another
abbrev pub stretch : List ℕ → ℕ → ℕ → List ℕ
stretch text start end = take (end - start) (drop start text)

-- the kind of the end of the text
abbrev pub end_kind : ℕ
end_kind = 26

-- what stands behind a word of that kind which ends there: nothing behind the end
abbrev pub behind : List ℕ → ℕ → ℕ → List Word
behind text kind end = choose (eqb kind end_kind) (λ _. []) (λ _. words_from text end)

-- the next word from a place on
pub record Next (text : List ℕ) (at kind start end : ℕ) : Type 0 where
  pub words : words_from text at ≡ record { start = start; end = end; token = token_as kind (stretch text start end) } ∷ behind text kind end
  pub onward : at ≤ start
  pub moves : (kind ≡ end_kind → ⊥) → start < end
  pub inside : (kind ≡ end_kind → ⊥) → end ≤ length text
  pub of_a_kind : kind < 28

-- white space is passed over
pub record Skipped (text : List ℕ) (at r : ℕ) : Type 0 where
  pub words : words_from text at ≡ words_from text r
  pub onward : at ≤ r
  pub inside : r ≤ length text
  pub seen : r < length text → white (get_or text r 0) ≡ false

-- a run of name characters ends there
pub record RunEnds (text : List ℕ) (at r : ℕ) : Type 0 where
  pub run : r ≡ at + run_length (drop at text)
  pub onward : at ≤ r
  pub inside : r ≤ length text
