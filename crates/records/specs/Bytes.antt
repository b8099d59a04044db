-- Numbers in a byte string: unsigned, low byte first. Past the end every byte is 0.
-- Assumes nothing.
use Rattle.std.specs.Prelude.{ℕ, zero, suc, ◌+◌, ◌*◌, ◌/◌, List, [], ◌∷◌, length, get_or, take, drop}

abbrev pub byte : List ℕ → ℕ → ℕ
byte b at = get_or b at 0

abbrev pub u16 : List ℕ → ℕ → ℕ
u16 b at = byte b at + 256 * byte b (at + 1)

abbrev pub u32 : List ℕ → ℕ → ℕ
u32 b at = byte b at + 256 * byte b (at + 1) + 65536 * byte b (at + 2) + 16777216 * byte b (at + 3)

-- record i of a string of records of 8 bytes
unfoldable pub record_at : List ℕ → ℕ → List ℕ
record_at b i = take 8 (drop (i * 8) b)

-- the bytes of n records from record i on; fewer where the string ends before
abbrev pub records_from : ℕ → ℕ → List ℕ → List ℕ
records_from i n b = take (n * 8) (drop (i * 8) b)

-- the first n records of 8 bytes
unfoldable pub records : ℕ → List ℕ → List (List ℕ)
records zero b = []
records (suc n) b = take 8 b ∷ records n (drop 8 b)

-- how many records of 4 bytes a body has: child classes (K), states (S), when clauses (W), action clauses (A)
abbrev pub in_fours : List ℕ → ℕ
in_fours b = length b / 4

-- how many records of 8 bytes: guard records (G), statements (T)
abbrev pub in_eights : List ℕ → ℕ
in_eights b = length b / 8
