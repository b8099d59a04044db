-- What it is for a byte string to be a text of the grammar, and where one that is none goes wrong.
-- Assumes nothing.
use Rattle.std.specs.Prelude.{ℕ, ◌≡◌, ◌⊎◌, List, ◌∷◌, ◌++◌}
use Rattle.grammar.specs.Grammar.{Token, Text, text_words}
use Rattle.grammar.specs.Words.{Word, words, tokens}

-- the words of the bytes are those of the tree
abbrev pub Says : List ℕ → Text → Type 0
Says b t = text_words t ≡ tokens (words b)

-- 16: the place is where a word of the bytes starts; some text begins with the words before it, and none with them and it
pub record WrongAt (b : List ℕ) (place : ℕ) : Type 0 where
  pub before : List Word
  pub word : Word
  pub behind : List Word
  pub split : words b ≡ before ++ (word ∷ behind)
  pub starts : place ≡ word.start
  pub text : Text
  pub rest : List Token
  pub some_text : text_words text ≡ tokens before ++ rest
  pub no_text : (t : Text) (others : List Token) → text_words t ≡ tokens before ++ (word.token ∷ others) → ⊥

-- every byte string is a text in one way only, or goes wrong at one place only
pub record OneWay : Type 0 where
  pub one_tree : (b : List ℕ) (t u : Text) → Says b t → Says b u → t ≡ u
  pub one_place : (b : List ℕ) (p q : ℕ) → WrongAt b p → WrongAt b q → p ≡ q
  pub never_both : (b : List ℕ) (t : Text) (p : ℕ) → Says b t → WrongAt b p → ⊥
  pub always_one : (b : List ℕ) → ((t : Text) × Says b t) ⊎ ((p : ℕ) × WrongAt b p)
