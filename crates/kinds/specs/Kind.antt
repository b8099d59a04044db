-- What the functions that tell a word's kind promise.
-- Assumes nothing.
use Rattle.std.specs.Prelude.{ℕ, ◌<◌, ◌≡◌, List, Option, MatchOption, length}
use Rattle.grammar.specs.Words.{position, token_of}
use Rattle.grammar.specs.Kinds.{token_as}

-- the word is of that kind, which is not the end's
pub record OfKind (word : List ℕ) (kind : ℕ) : Type 0 where
  pub token : token_of word ≡ token_as kind word
  pub of_a_kind : kind < 28
  pub not_end : kind ≡ 26 → ⊥

-- the number of a word in a table; none, if it is not there
abbrev pub Numbered : List (List ℕ) → List ℕ → Option ℕ → Type 0
Numbered table word r = MatchOption r (position table word ≡ length table) (λ k. (k ≡ position table word) × (k < length table))
