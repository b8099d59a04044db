-- The contents of a sheet, six entries of start and length, and the six bodies, which follow in contents order.
-- Assumes nothing.
use Rattle.std.specs.Prelude.{ℕ, ◌+◌, ◌*◌, ◌/◌, ◌%◌, Bool, ◌&&◌, List, [], ◌∷◌, eqb, leb, length, get_or, take, drop}
use Rattle.model.specs.Words.{each}
use Rattle.records.specs.Bytes.{u16}

-- the table of bodies: child classes, states, when clauses, guard records, action clauses, statements
abbrev pub record_bytes : ℕ → ℕ
record_bytes k = get_or (4 ∷ 4 ∷ 4 ∷ 8 ∷ 4 ∷ 8 ∷ []) k 0

abbrev pub fewest : ℕ → ℕ
fewest k = get_or (0 ∷ 1 ∷ 0 ∷ 0 ∷ 0 ∷ 0 ∷ []) k 0

abbrev pub most : ℕ → ℕ
most k = get_or (8 ∷ 32 ∷ 256 ∷ 1024 ∷ 256 ∷ 1024 ∷ []) k 0

-- what entry k of the contents says: where body k starts, and its length in bytes
abbrev pub start : List ℕ → ℕ → ℕ
start b k = u16 b (k * 4)

abbrev pub size : List ℕ → ℕ → ℕ
size b k = u16 b (k * 4 + 2)

-- the bytes of body k
unfoldable pub body : List ℕ → ℕ → List ℕ
body b k = take (size b k) (drop (start b k) b)

-- no refusal 1: at least 24 bytes, at most 18,616
unfoldable pub length_right : List ℕ → Bool
length_right b = leb 24 (length b) && leb (length b) 18616

-- the first body starts at byte 24, each next one where the one before ended, the last ends with the sheet
unfoldable pub bodies_follow : List ℕ → Bool
bodies_follow b = eqb (start b 0) 24 && (each 5 (λ k. eqb (start b (k + 1)) (start b k + size b k)) && eqb (start b 5 + size b 5) (length b))

-- a whole number of records, in the table's range
abbrev pub count_right : List ℕ → ℕ → Bool
count_right b k = eqb (size b k % record_bytes k) 0 && (leb (fewest k) (size b k / record_bytes k) && leb (size b k / record_bytes k) (most k))

unfoldable pub counts_in_range : List ℕ → Bool
counts_in_range b = each 6 (count_right b)

-- no refusal 2
unfoldable pub contents_right : List ℕ → Bool
contents_right b = bodies_follow b && counts_in_range b

pub record Bodies : Type 0 where
  pub classes : List ℕ
  pub states : List ℕ
  pub whens : List ℕ
  pub guards : List ℕ
  pub actions : List ℕ
  pub statements : List ℕ

unfoldable pub bodies : List ℕ → Bodies
bodies b = record { classes = body b 0; states = body b 1; whens = body b 2; guards = body b 3; actions = body b 4; statements = body b 5 }
