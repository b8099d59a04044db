-- The fields of a question line, parted by one space, of which the first is a string of bytes.
-- Assumes nothing.
use denote.Bor.{Bor}
use denote.MutBor.{MutBor}
use Rattle.std.specs.Prelude.{ℕ, List}
use Rattle.model.specs.Words.{choose}
use Rattle.texts.specs.Texts.{Appended}
use Rattle.texts.specs.Fields.{before, behind, string_right, string_bytes}
use Rattle.lines.specs.Lines.{bad_line}

-- the first field of some, and the others
abbrev pub first : List ℕ → List ℕ
first = before 32

abbrev pub others : List ℕ → List ℕ
others = behind 32

-- the first of some fields as a string of bytes, and what it and the others are answered; a line of at most 1,048,576 bytes has no
-- string of more than 524,288
unfoldable pub with_string : List ℕ → (List ℕ → List ℕ → List ℕ) → List ℕ
with_string f rest = choose (string_right 524288 (first f)) (λ _. rest (string_bytes 524288 (first f)) (others f)) (λ _. bad_line)

-- that what a question goes on with, by what its call comes to, writes a line, of a string and the other fields
abbrev pub Writes : (MutBor (List ℕ) → Bor (List ℕ) → MutBor (List ℕ) → ℕ → MutBor (List ℕ) → MutBor (List ℕ) → Type 0) → (List ℕ → List ℕ → List ℕ) → Type 0
Writes post line = (s : MutBor (List ℕ)) (g : Bor (List ℕ)) (o : MutBor (List ℕ)) (end : ℕ) (t m : MutBor (List ℕ)) → post s g o end t m → Appended o.now m.now 0 (line s.now g.now) end
