-- The line that answers a question line: `judge SHEET`, `probe SHEET LIST STATE`, `phase SHEET LIST STATE BUFFER`,
-- `command SHEET LIST STATE COMMAND BUFFER`, `loop SHEET PRESENT BUFFER`, `read TEXT NAMES COMMANDS CLASSES SHEET TABLE`,
-- `write SHEET OWNNAME OWNSTATES NAMES COMMANDS CLASSES BUFFER`, the fields parted by one space; of any other line `bad line`.
-- Assumes nothing.
use Rattle.std.specs.Prelude.{ℕ, Bool, true, false, ◌&&◌, List, [], ◌∷◌, eqb, leb, length, Option, Some, None}
use Rattle.model.specs.Words.{choose}
use Rattle.model.specs.Replies.{buffer_after}
use Rattle.bargewicker.specs.Questions.{Question, judge, probe_in, phase_from, command_in, loop_with, text_of, reply}
use Rattle.bargewicker.specs.Numbers.{numbers_for}
use Rattle.texts.specs.Fields.{occurs, number_of}
use Rattle.lines.specs.Lines.{bad_line, judge_text, probe_text, phase_line, command_line, loop_line}
use Rattle.strings.specs.Strings.{first, others, with_string}
use Rattle.askread.specs.AskRead.{text_answer}
use Rattle.askwrite.specs.AskWrite.{line_of_written, own_name_answer}
use Rattle.asking.specs.declared.Asked.{Asked}
use Rattle.asking.specs.declared.Asked.TheVariants as A
use Rattle.asking.specs.declared.Sending.{Sending}
use Rattle.asking.specs.declared.Sending.TheVariants as S
use Rattle.asking.specs.declared.Verb.{Verb}
use Rattle.asking.specs.declared.Verb.TheVariants as W

-- the verbs
abbrev pub judge_verb : List ℕ
judge_verb = 106 ∷ 117 ∷ 100 ∷ 103 ∷ 101 ∷ []

abbrev pub probe_verb : List ℕ
probe_verb = 112 ∷ 114 ∷ 111 ∷ 98 ∷ 101 ∷ []

abbrev pub phase_verb : List ℕ
phase_verb = 112 ∷ 104 ∷ 97 ∷ 115 ∷ 101 ∷ []

abbrev pub command_verb : List ℕ
command_verb = 99 ∷ 111 ∷ 109 ∷ 109 ∷ 97 ∷ 110 ∷ 100 ∷ []

abbrev pub loop_verb : List ℕ
loop_verb = 108 ∷ 111 ∷ 111 ∷ 112 ∷ []

abbrev pub read_verb : List ℕ
read_verb = 114 ∷ 101 ∷ 97 ∷ 100 ∷ []

abbrev pub write_verb : List ℕ
write_verb = 119 ∷ 114 ∷ 105 ∷ 116 ∷ 101 ∷ []

-- two strings of the same bytes
unfoldable pub same_bytes : List ℕ → List ℕ → Bool
same_bytes [] [] = true
same_bytes [] (y ∷ ys) = false
same_bytes (x ∷ xs) [] = false
same_bytes (x ∷ xs) (y ∷ ys) = eqb x y && same_bytes xs ys

-- a line's verb is a word, and it has so many spaces
unfoldable pub is_form : List ℕ → List ℕ → ℕ → ℕ → Bool
is_form verb word spaces n = same_bytes verb word && eqb spaces n

unfoldable pub verb_of : List ℕ → ℕ → Verb
verb_of verb n =
    choose (is_form verb judge_verb n 1) (λ _. W.Judge) λ _.
    choose (is_form verb loop_verb n 3) (λ _. W.Loop) λ _.
    choose (is_form verb probe_verb n 3) (λ _. W.Placed A.Probe) λ _.
    choose (is_form verb phase_verb n 4) (λ _. W.Placed A.Phase) λ _.
    choose (is_form verb command_verb n 5) (λ _. W.Placed A.Command) λ _.
    choose (is_form verb read_verb n 6) (λ _. W.Read) λ _.
    choose (is_form verb write_verb n 7) (λ _. W.Write) λ _. W.Other

-- the first of some fields as a number from 0 to 255
unfoldable pub on_number : Option ℕ → (ℕ → List ℕ) → List ℕ
on_number (Some n) rest = rest n
on_number None rest = bad_line

unfoldable pub with_number : List ℕ → (ℕ → List ℕ → List ℕ) → List ℕ
with_number f rest = on_number (number_of (first f)) (λ n. rest n (others f))

-- the line of a question's answer by the rules, with the lent buffer after the call where one is lent
unfoldable pub line_of : Question → List ℕ
line_of (judge b) = judge_text (numbers_for (judge b))
line_of (probe_in b l q) = probe_text (numbers_for (probe_in b l q))
line_of (phase_from b l q out) = phase_line (numbers_for (phase_from b l q out)) (buffer_after (reply (phase_from b l q out)) out)
line_of (command_in b l q m out) = command_line (numbers_for (command_in b l q m out)) (buffer_after (reply (command_in b l q m out)) out)
line_of (loop_with b present out) = loop_line (numbers_for (loop_with b present out)) (buffer_after (reply (loop_with b present out)) out)
line_of (text_of b n out) = line_of_written b n out

-- BUFFER, lent for what a phase or a command sends
abbrev pub sending_from : Sending → List ℕ → List ℕ → ℕ → List ℕ → Question
sending_from S.Phase b l q out = phase_from b l q out
sending_from (S.Command m) b l q out = command_in b l q m out

unfoldable pub sending_answer : Sending → List ℕ → List ℕ → ℕ → List ℕ → List ℕ
sending_answer s b l q f = with_string f λ out _. line_of (sending_from s b l q out)

-- COMMAND BUFFER
unfoldable pub command_answer : List ℕ → List ℕ → ℕ → List ℕ → List ℕ
command_answer b l q f = with_number f λ m g. sending_answer (S.Command m) b l q g

-- what is behind LIST STATE
unfoldable pub placed_answer : Asked → List ℕ → List ℕ → ℕ → List ℕ → List ℕ
placed_answer A.Probe b l q f = line_of (probe_in b l q)
placed_answer A.Phase b l q f = sending_answer S.Phase b l q f
placed_answer A.Command b l q f = command_answer b l q f

-- what is behind LIST
unfoldable pub state_answer : Asked → List ℕ → List ℕ → List ℕ → List ℕ
state_answer a b l f = with_number f λ q g. placed_answer a b l q g

-- LIST and what is behind it
unfoldable pub list_answer : Asked → List ℕ → List ℕ → List ℕ
list_answer a b f = with_string f λ l g. state_answer a b l g

-- PRESENT BUFFER
unfoldable pub loop_answer : List ℕ → List ℕ → List ℕ
loop_answer b f = with_number f λ p g. with_string g λ out _. line_of (loop_with b p out)

-- what is behind SHEET, or TEXT
unfoldable pub sheet_answer : Verb → List ℕ → List ℕ → List ℕ
sheet_answer W.Judge b f = line_of (judge b)
sheet_answer W.Loop b f = loop_answer b f
sheet_answer (W.Placed a) b f = list_answer a b f
sheet_answer W.Read b f = text_answer b f
sheet_answer W.Write b f = own_name_answer b f
sheet_answer W.Other b f = bad_line

-- a line of at most 1,048,576 bytes: its verb, SHEET or TEXT and what is behind it
unfoldable pub fields_answer : Verb → List ℕ → List ℕ
fields_answer v f = with_string f λ b g. sheet_answer v b g

unfoldable pub answer_line : List ℕ → List ℕ
answer_line l = choose (leb (length l) 1048576) (λ _. fields_answer (verb_of (first l) (occurs 32 l)) (others l)) (λ _. bad_line)
