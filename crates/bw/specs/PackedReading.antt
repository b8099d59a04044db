-- The word that bw_read_class returns: the paper's numbers of the answer to a class text, each in its field of bits.
-- Assumes nothing.
use Rattle.std.specs.Prelude.{ℕ, ◌<◌, ◌≤◌, ◌^◌, ◌≡◌, List, [], ◌∷◌, eqb, length}
use Rattle.model.specs.Words.{choose, Bytes}
use Rattle.readings.specs.Readings as Readings
use Rattle.readings.specs.Readings.{Lent, Reading, Outcome, Answers, reading_numbers}
use Rattle.bw.specs.Packed.{Field, field, refused, side_by_side, read}

-- the place of 16: all bits behind the refusal
abbrev pub place : Field
place = field 8 56

-- the number of own states, and the length of the sheet
abbrev pub state_count : Field
state_count = field 16 8

abbrev pub sheet_length : Field
sheet_length = field 32 32

-- the fields of an answer, in the order of its numbers
abbrev pub reading_fields : Reading → List Field
reading_fields (Readings.wrong p) = refused ∷ place ∷ []
reading_fields (Readings.refused n) = refused ∷ []
reading_fields (Readings.read l s) = refused ∷ sheet_length ∷ state_count ∷ []

-- its word
unfoldable pub packed_reading : Reading → ℕ
packed_reading r = side_by_side (reading_fields r) (reading_numbers r)

-- the word and both buffers afterwards are those of the answer
pub record ReturnedReading (q : Lent) (r : ℕ) (sheet table : List ℕ) : Type 0 where
  pub reading : Reading
  pub answers : Answers q (record { reading = reading; sheet = sheet; table = table })
  pub word_is : r ≡ packed_reading reading

-- two words that the function returns, and two contents of each buffer afterwards, are one
abbrev pub OneWordAndBuffers : Type 0
OneWordAndBuffers = (q : Lent) (r s : ℕ) (x y u v : List ℕ) → ReturnedReading q r x y → ReturnedReading q s u v → (r ≡ s) × (x ≡ u) × (y ≡ v)

-- the numbers that a word holds: 16 and a place; 0, the sheet's length and the number of own states; or a refusal alone
unfoldable pub unpacked_reading : ℕ → List ℕ
unpacked_reading w =
    choose (eqb (read w refused) 16) (λ _. 16 ∷ read w place ∷ []) λ _.
    choose (eqb (read w refused) 0) (λ _. 0 ∷ read w sheet_length ∷ read w state_count ∷ []) λ _. read w refused ∷ []

-- what a caller may lend: a text of under 2 ^ 56 bytes, and child classes of any bytes
pub record Lendable (q : Lent) : Type 0 where
  pub text_short : length q.text < 2 ^ 56
  pub classes_bytes : Bytes q.lists.classes

-- of every answer to what may be lent
pub record NoReadingLost : Type 0 where
  -- every number is read back from its word
  pub read_back : (q : Lent) (o : Outcome) → Lendable q → Answers q o → unpacked_reading (packed_reading o.reading) ≡ reading_numbers o.reading
  -- so that equal words say the same
  pub told_apart : (q p : Lent) (o u : Outcome) → Lendable q → Lendable p → Answers q o → Answers p u → packed_reading o.reading ≡ packed_reading u.reading → o.reading ≡ u.reading

-- a buffer of 18,616 bytes for the sheet and one of 1,024 for the table are always enough
abbrev pub RoomEnough : Type 0
RoomEnough = (q : Lent) (o : Outcome) → Bytes q.lists.classes → 18616 ≤ length q.sheet → 1024 ≤ length q.table → Answers q o → o.reading ≡ Readings.refused 15 → ⊥
