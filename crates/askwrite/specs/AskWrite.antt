-- The line that answers `write SHEET OWNNAME OWNSTATES NAMES COMMANDS CLASSES BUFFER`.
-- Assumes nothing.
use Rattle.std.specs.Prelude.{ℕ, List}
use Rattle.model.specs.Replies.{buffer_after}
use Rattle.bargewicker.specs.Questions.{text_of, reply}
use Rattle.bargewicker.specs.Numbers.{numbers_for}
use Rattle.writings.specs.Layout.{Named}
use Rattle.writings.specs.Writings.{named}
use Rattle.lines.specs.Lines.{write_line}
use Rattle.strings.specs.Strings.{with_string}

-- the line of a written class text's answer, with the buffer after the call
unfoldable pub line_of_written : List ℕ → Named → List ℕ → List ℕ
line_of_written b n out = write_line (numbers_for (text_of b n out)) (buffer_after (reply (text_of b n out)) out)

-- what is behind SHEET, string by string: OWNNAME OWNSTATES NAMES COMMANDS CLASSES BUFFER
unfoldable pub buffer_answer : List ℕ → List ℕ → List ℕ → List ℕ → List ℕ → List ℕ → List ℕ → List ℕ
buffer_answer b o s n c k f = with_string f λ out _. line_of_written b (named o s n c k) out

unfoldable pub classes_answer : List ℕ → List ℕ → List ℕ → List ℕ → List ℕ → List ℕ → List ℕ
classes_answer b o s n c f = with_string f λ k g. buffer_answer b o s n c k g

unfoldable pub commands_answer : List ℕ → List ℕ → List ℕ → List ℕ → List ℕ → List ℕ
commands_answer b o s n f = with_string f λ c g. classes_answer b o s n c g

unfoldable pub names_answer : List ℕ → List ℕ → List ℕ → List ℕ → List ℕ
names_answer b o s f = with_string f λ n g. commands_answer b o s n g

unfoldable pub own_states_answer : List ℕ → List ℕ → List ℕ → List ℕ
own_states_answer b o f = with_string f λ s g. names_answer b o s g

unfoldable pub own_name_answer : List ℕ → List ℕ → List ℕ
own_name_answer b f = with_string f λ o g. own_states_answer b o g
