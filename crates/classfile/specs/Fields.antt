-- A file cut into fields: the words of its lines, the ends of its lines, and the end of the file.
-- Assumes nothing.
use Rattle.std.specs.Prelude.{ℕ, zero, suc, ◌+◌, ◌<◌, ◌≤◌, ◌≡◌, Bool, true, false, ◌||◌, List, [], ◌∷◌, eqb, length, get_or, drop}
use Rattle.model.specs.Words.{choose}
use Rattle.classfile.specs.declared.fields.Kind.{Kind}
use Rattle.classfile.specs.declared.fields.Kind.TheVariants.{Word, LineEnd, FileEnd}

-- white space within a line: blank, tab, carriage return
unfoldable pub blank : ℕ → Bool
blank b = eqb b 32 || (eqb b 9 || eqb b 13)

-- white space, or a line feed, which ends the line
unfoldable pub white : ℕ → Bool
white b = eqb b 10 || blank b

-- the end of a line, and that of the file
abbrev pub is_line_end : Kind → Bool
is_line_end Word = false
is_line_end LineEnd = true
is_line_end FileEnd = false

abbrev pub is_file_end : Kind → Bool
is_file_end Word = false
is_file_end LineEnd = false
is_file_end FileEnd = true

-- a field, and where it starts and ends
pub record Field : Type 0 where
  pub kind : Kind
  pub start : ℕ
  pub end : ℕ

abbrev pub field : Kind → ℕ → ℕ → Field
field kind start end = record { kind = kind; start = start; end = end }

-- how many bytes stand before the next white space
unfoldable pub run : List ℕ → ℕ
run [] = 0
run (b ∷ bs) = choose (white b) (λ _. 0) (λ _. suc (run bs))

-- the fields of the bytes that stand at a place, the first k of which are passed over
unfoldable pub cut : ℕ → ℕ → List ℕ → List Field
cut k at [] = field FileEnd at at ∷ []
cut (suc k) at (b ∷ bs) = cut k (suc at) bs
cut zero at (b ∷ bs) =
    choose (blank b) (λ _. cut zero (suc at) bs) λ _.
    choose (eqb b 10) (λ _. field LineEnd at (suc at) ∷ cut zero (suc at) bs) λ _. field Word at (suc at + run bs) ∷ cut (run bs) (suc at) bs

-- the fields of a file from a place on
unfoldable pub fields_from : List ℕ → ℕ → List Field
fields_from file at = cut 0 at (drop at file)

-- what stands behind a field: nothing behind the end of the file
abbrev pub behind : List ℕ → Kind → ℕ → List Field
behind file kind end = choose (is_file_end kind) (λ _. []) (λ _. fields_from file end)

-- the next field from a place on
pub record Next (file : List ℕ) (at : ℕ) (kind : Kind) (start end : ℕ) : Type 0 where
  pub fields : fields_from file at ≡ field kind start end ∷ behind file kind end
  pub onward : at ≤ start
  pub order : start ≤ end
  pub inside : end ≤ length file
  pub moves : (kind ≡ FileEnd → ⊥) → start < end

-- blanks are passed over
pub record Blanks (file : List ℕ) (at r : ℕ) : Type 0 where
  pub fields : fields_from file at ≡ fields_from file r
  pub onward : at ≤ r
  pub inside : r ≤ length file
  pub seen : r < length file → blank (get_or file r 0) ≡ false

-- the word that stands at a place ends there
pub record WordEnds (file : List ℕ) (at r : ℕ) : Type 0 where
  pub is : r ≡ suc at + run (drop (suc at) file)
  pub onward : at < r
  pub inside : r ≤ length file
