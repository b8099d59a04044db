-- Texts as lists of ASCII bytes, and what it means that one was written into a lent buffer.
-- Assumes nothing.
use Rattle.std.specs.Prelude.{ℕ, zero, suc, ◌+◌, ◌/◌, ◌%◌, min, ◌≡◌, cond, List, [], ◌∷◌, ◌++◌, ltb, length}
use Rattle.std.proofs.lemmas.List.Edits.{sets}
use Rattle.io.specs.Counts.{IsPrefixLen}

-- the text stands in the buffer from a place on, as far as the buffer reaches; the end is the place behind it, or the buffer's end. That the
-- end counts bytes of the buffer follows, and is said so that a caller can lend them on
pub record Appended (before after : List ℕ) (at : ℕ) (text : List ℕ) (end : ℕ) : Type 0 where
  pub buffer : after ≡ sets before at text
  pub place : end ≡ min (at + length text) (length before)
  pub counted : IsPrefixLen end after

-- the decimal digits of a number, of suc k digits at most, with no leading zeros
unfoldable pub decimal_of : ℕ → ℕ → List ℕ
decimal_of zero n = (48 + n % 10) ∷ []
decimal_of (suc k) n = cond (ltb n 10) ((48 + n) ∷ []) (decimal_of k (n / 10) ++ ((48 + n % 10) ∷ []))

-- the decimal digits of a number below 10 to the 20th, with no leading zeros
unfoldable pub decimal_text : ℕ → List ℕ
decimal_text n = decimal_of 19 n

-- a number as a further field: a space, then its digits
abbrev pub number_text : ℕ → List ℕ
number_text n = 32 ∷ decimal_text n

-- the ASCII code of a digit below 16: `0` to `9`, then `a` to `f`
abbrev pub hex_digit : ℕ → ℕ
hex_digit d = cond (ltb d 10) (48 + d) (87 + d)

-- the two hex digits of a byte
abbrev pub hex_byte : ℕ → List ℕ
hex_byte b = hex_digit (b / 16) ∷ hex_digit (b % 16) ∷ []

-- the hex digits of a string of bytes
unfoldable pub hex_text : List ℕ → List ℕ
hex_text [] = []
hex_text (b ∷ bs) = hex_byte b ++ hex_text bs
