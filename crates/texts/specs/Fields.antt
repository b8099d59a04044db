-- What is read from a line: its fields, numbers from 0 to 255, strings of bytes in hex.
-- Assumes nothing.
use Rattle.std.specs.Prelude.{ℕ, suc, ◌+◌, ◌-◌, ◌*◌, ◌/◌, ◌%◌, ◌≤◌, ◌<◌, max, ◌≡◌, Bool, true, false, cond, ◌&&◌, ◌||◌, List, [], ◌∷◌, eqb, leb, ltb, Option, Some, None}
use lib.ListN.{length, drop}
use Rattle.std.proofs.lemmas.List.Edits.{sets}

-- how many bytes stand before the first byte b
unfoldable pub until : ℕ → List ℕ → ℕ
until b [] = 0
until b (x ∷ xs) = cond (eqb x b) 0 (suc (until b xs))

-- the place of the next byte b from a place on, or the end; that it is no smaller and within the list follows from the first
pub record Finds (b : ℕ) (l : List ℕ) (at r : ℕ) : Type 0 where
  pub place : r ≡ at + until b (drop at l)
  pub onward : at ≤ r
  pub within : r ≤ max at (length l)

-- the place of the next byte b, one of the list's; none where the place found is the end
abbrev pub FindsNext : ℕ → List ℕ → ℕ → Option ℕ → Type 0
FindsNext b l at None = Finds b l at (max at (length l))
FindsNext b l at (Some r) = (r < length l) × Finds b l at r

-- how often the byte b occurs
unfoldable pub occurs : ℕ → List ℕ → ℕ
occurs b [] = 0
occurs b (x ∷ xs) = cond (eqb x b) 1 0 + occurs b xs

-- what stands before the first byte b, and what stands behind it
unfoldable pub before : ℕ → List ℕ → List ℕ
before b [] = []
before b (x ∷ xs) = cond (eqb x b) [] (x ∷ before b xs)

unfoldable pub behind : ℕ → List ℕ → List ℕ
behind b [] = []
behind b (x ∷ xs) = cond (eqb x b) xs (behind b xs)

-- the value of a decimal digit; 10 of any other byte
abbrev pub digit_value : ℕ → ℕ
digit_value b = cond (ltb b 48) 10 (cond (ltb b 58) (b - 48) 10)

-- a number of three digits is refused: one is no digit, or it is less than a number or over 255
abbrev pub number_wrong : ℕ → ℕ → ℕ → ℕ → Bool
number_wrong x y z least = ltb 9 x || (ltb 9 y || (ltb 9 z || (ltb (x * 100 + y * 10 + z) least || ltb 255 (x * 100 + y * 10 + z))))

abbrev pub picked : Bool → Option ℕ → Option ℕ → Option ℕ
picked true a b = a
picked false a b = b

-- a number of three digits, or none
abbrev pub number_from : ℕ → ℕ → ℕ → ℕ → Option ℕ
number_from x y z least = picked (number_wrong x y z least) None (Some ((x * 100 + y * 10 + z) % 256))

-- a decimal number 0 to 255 with no leading zeros: one of two digits is at least 10, one of three at least 100
unfoldable pub number_of : List ℕ → Option ℕ
number_of [] = None
number_of (a ∷ []) = number_from 0 0 (digit_value a) 0
number_of (a ∷ b ∷ []) = number_from 0 (digit_value a) (digit_value b) 10
number_of (a ∷ b ∷ c ∷ []) = number_from (digit_value a) (digit_value b) (digit_value c) 100
number_of (a ∷ b ∷ c ∷ d ∷ rest) = None

-- the value of a lower-case hex digit; 16 of any other byte
abbrev pub hex_value : ℕ → ℕ
hex_value b = cond (ltb b 48) 16 (cond (ltb b 58) (b - 48) (cond (ltb b 97) 16 (cond (ltb b 103) (b - 87) 16)))

-- every byte is a hex digit
unfoldable pub hex_digits : List ℕ → Bool
hex_digits [] = true
hex_digits (x ∷ xs) = leb (hex_value x) 15 && hex_digits xs

-- the byte that two hex digits stand for
abbrev pub pair_value : ℕ → ℕ → ℕ
pair_value a b = hex_value a % 16 * 16 + hex_value b % 16

-- the bytes that hex digits stand for, two by two
unfoldable pub hex_bytes : List ℕ → List ℕ
hex_bytes [] = []
hex_bytes (a ∷ []) = []
hex_bytes (a ∷ b ∷ rest) = pair_value a b ∷ hex_bytes rest

-- a string of bytes: `-`, or hex digits, even in number and not none, that the room holds
unfoldable pub string_right : ℕ → List ℕ → Bool
string_right room [] = false
string_right room (a ∷ []) = eqb a 45
string_right room (a ∷ b ∷ rest) =
    eqb (length (a ∷ b ∷ rest) % 2) 0 && (leb (length (a ∷ b ∷ rest) / 2) room && hex_digits (a ∷ b ∷ rest))

-- the bytes that such a string stands for; none where it is not right
unfoldable pub string_bytes : ℕ → List ℕ → List ℕ
string_bytes room l = cond (string_right room l) (hex_bytes l) []

-- the field was decoded into the buffer, and so many bytes are; or it is not right and nothing is written
pub record Decodes (field before after : List ℕ) (r : Option ℕ) : Type 0 where
  pub result : r ≡ cond (string_right (length before) field) (Some (length (string_bytes (length before) field))) None
  pub buffer : after ≡ sets before 0 (string_bytes (length before) field)
