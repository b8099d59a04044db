-- The line that answers `read TEXT NAMES COMMANDS CLASSES SHEET TABLE`.
-- Assumes nothing.
use Rattle.std.specs.Prelude.{ℕ, List}
use Rattle.readings.specs.Readings.{Lent}
use Rattle.readings.specs.Computed.{computed, numbers_in}
use Rattle.readings.specs.Promise.{asked}
use Rattle.lines.specs.Lines.{read_line}
use Rattle.strings.specs.Strings.{with_string}

-- the line of a class text's answer, with both buffers after the call
unfoldable pub line_of_text : Lent → List ℕ
line_of_text q = read_line (numbers_in (computed q).reading) (computed q).sheet (computed q).table

-- what is behind TEXT, string by string: NAMES COMMANDS CLASSES SHEET TABLE
unfoldable pub table_answer : List ℕ → List ℕ → List ℕ → List ℕ → List ℕ → List ℕ → List ℕ
table_answer t n c k s f = with_string f λ table _. line_of_text (asked t n c k s table)

unfoldable pub buffer_answer : List ℕ → List ℕ → List ℕ → List ℕ → List ℕ → List ℕ
buffer_answer t n c k f = with_string f λ s g. table_answer t n c k s g

unfoldable pub classes_answer : List ℕ → List ℕ → List ℕ → List ℕ → List ℕ
classes_answer t n c f = with_string f λ k g. buffer_answer t n c k g

unfoldable pub commands_answer : List ℕ → List ℕ → List ℕ → List ℕ
commands_answer t n f = with_string f λ c g. classes_answer t n c g

unfoldable pub text_answer : List ℕ → List ℕ → List ℕ
text_answer t f = with_string f λ n g. commands_answer t n g
