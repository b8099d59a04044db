-- Records of 4 and of 8 bytes, and the bytes of a list of them. Numbers stand low byte first.
-- Assumes nothing.
use Rattle.std.specs.Prelude.{ℕ, ◌/◌, ◌%◌, List, [], ◌∷◌}

-- four bytes
pub record Four : Type 0 where
  pub b0 : ℕ
  pub b1 : ℕ
  pub b2 : ℕ
  pub b3 : ℕ

-- eight bytes
pub record Eight : Type 0 where
  pub front : Four
  pub back : Four

-- a record of these bytes, and of these halves
abbrev pub four : ℕ → ℕ → ℕ → ℕ → Four
four a b c d = record { b0 = a; b1 = b; b2 = c; b3 = d }

abbrev pub eight : Four → Four → Eight
eight f b = record { front = f; back = b }

-- two numbers of two bytes
abbrev pub pair : ℕ → ℕ → Four
pair m n = four (m % 256) (m / 256) (n % 256) (n / 256)

-- a number of four bytes
abbrev pub number : ℕ → Four
number n = pair (n % 65536) (n / 65536)

-- four zero bytes
abbrev pub zeros : Four
zeros = four 0 0 0 0

-- the bytes of a record, before others
abbrev pub bytes4 : Four → List ℕ → List ℕ
bytes4 r rest = r.b0 ∷ r.b1 ∷ r.b2 ∷ r.b3 ∷ rest

abbrev pub bytes8 : Eight → List ℕ → List ℕ
bytes8 r rest = bytes4 r.front (bytes4 r.back rest)

-- the bytes of a list of records
unfoldable pub fours : List Four → List ℕ
fours [] = []
fours (r ∷ rs) = bytes4 r (fours rs)

unfoldable pub eights : List Eight → List ℕ
eights [] = []
eights (r ∷ rs) = bytes8 r (eights rs)
