-- The line of each answer, as ASCII bytes: a word for its case, then its numbers, then the lent buffer, fields parted by one space.
-- Assumes nothing.
use Rattle.std.specs.Prelude.{ℕ, zero, suc, Bool, cond, ◌&&◌, List, [], ◌∷◌, ◌++◌, eqb, length, take, drop, get_or}
use Rattle.texts.specs.Texts.{decimal_text, number_text, hex_text}

-- the answer to a line that is no question; the words of the cases
abbrev pub bad_line : List ℕ
bad_line = 98 ∷ 97 ∷ 100 ∷ 32 ∷ 108 ∷ 105 ∷ 110 ∷ 101 ∷ []

abbrev pub refused_word : List ℕ
refused_word = 114 ∷ 101 ∷ 102 ∷ 117 ∷ 115 ∷ 101 ∷ 100 ∷ []

abbrev pub accepted_word : List ℕ
accepted_word = 97 ∷ 99 ∷ 99 ∷ 101 ∷ 112 ∷ 116 ∷ 101 ∷ 100 ∷ []

abbrev pub none_word : List ℕ
none_word = 110 ∷ 111 ∷ 110 ∷ 101 ∷ []

abbrev pub clause_word : List ℕ
clause_word = 99 ∷ 108 ∷ 97 ∷ 117 ∷ 115 ∷ 101 ∷ []

abbrev pub stay_word : List ℕ
stay_word = 115 ∷ 116 ∷ 97 ∷ 121 ∷ []

abbrev pub do_word : List ℕ
do_word = 100 ∷ 111 ∷ []

abbrev pub loop_word : List ℕ
loop_word = 108 ∷ 111 ∷ 111 ∷ 112 ∷ []

abbrev pub ignored_word : List ℕ
ignored_word = 105 ∷ 103 ∷ 110 ∷ 111 ∷ 114 ∷ 101 ∷ 100 ∷ []

abbrev pub handled_word : List ℕ
handled_word = 104 ∷ 97 ∷ 110 ∷ 100 ∷ 108 ∷ 101 ∷ 100 ∷ []

abbrev pub free_word : List ℕ
free_word = 102 ∷ 114 ∷ 101 ∷ 101 ∷ []

abbrev pub read_word : List ℕ
read_word = 114 ∷ 101 ∷ 97 ∷ 100 ∷ []

abbrev pub written_word : List ℕ
written_word = 119 ∷ 114 ∷ 105 ∷ 116 ∷ 116 ∷ 101 ∷ 110 ∷ []

-- a word and numbers behind it, a space before each
unfoldable pub said : List ℕ → List ℕ → List ℕ
said text [] = text
said text (n ∷ ns) = said (text ++ number_text n) ns

-- a further field with nothing to say: a space, then `-`
abbrev pub empty_field : List ℕ
empty_field = 32 ∷ 45 ∷ []

-- a string of bytes as a further field: a space, then its hex digits, `-` for the empty one
abbrev pub string_field : List ℕ → List ℕ
string_field [] = empty_field
string_field (b ∷ bs) = 32 ∷ hex_text (b ∷ bs)

-- an answer's numbers are those of the paper: a refusal's number, or 0, the number of the case and its values. Each case has its word
unfoldable pub text_of : List (List ℕ) → List ℕ → List ℕ
text_of words [] = []
text_of words (suc n ∷ rest) = said refused_word (suc n ∷ [])
text_of words (zero ∷ []) = get_or words 0 []
text_of words (zero ∷ n ∷ values) = said (get_or words n []) values

-- each question's cases, from 0 on
abbrev pub judge_text : List ℕ → List ℕ
judge_text = text_of (accepted_word ∷ [])

abbrev pub probe_text : List ℕ → List ℕ
probe_text = text_of (none_word ∷ clause_word ∷ [])

-- the command of the DO that closed a phase is its last number; with five numbers, up to the bytes written, there is no such DO
abbrev pub phase_text : List ℕ → List ℕ
phase_text ns = text_of (none_word ∷ stay_word ∷ do_word ∷ loop_word ∷ []) ns ++ cond (eqb (length ns) 5) empty_field []

-- the command's own part of its answer
abbrev pub handled_text : List ℕ → List ℕ
handled_text = text_of (ignored_word ∷ handled_word ∷ [])

-- the values of a phase behind something: a space, then the phase's text; a refused command has none
abbrev pub phase_field : List ℕ → List ℕ
phase_field [] = []
phase_field (v ∷ vs) = 32 ∷ phase_text (0 ∷ v ∷ vs)

-- the first four numbers are the command's own, behind them are the values of the phase
abbrev pub command_text : List ℕ → List ℕ
command_text ns = handled_text (take 4 ns) ++ phase_field (drop 4 ns)

abbrev pub loop_text : List ℕ → List ℕ
loop_text = text_of (free_word ∷ loop_word ∷ [])

-- an answer of one case has no number for it
unfoldable pub one_case : List ℕ → List ℕ → List ℕ
one_case word [] = []
one_case word (zero ∷ values) = said word values
one_case word (suc n ∷ values) = said refused_word (suc n ∷ values)

-- a class text that is read; where it goes wrong, the place stands behind the 16
abbrev pub read_text : List ℕ → List ℕ
read_text = one_case read_word

-- a class text that is written
abbrev pub write_text : List ℕ → List ℕ
write_text = one_case written_word

-- with the lent buffer as it is after the call
abbrev pub phase_line : List ℕ → List ℕ → List ℕ
phase_line ns final = phase_text ns ++ string_field final

abbrev pub command_line : List ℕ → List ℕ → List ℕ
command_line ns final = command_text ns ++ string_field final

abbrev pub loop_line : List ℕ → List ℕ → List ℕ
loop_line ns final = loop_text ns ++ string_field final

abbrev pub write_line : List ℕ → List ℕ → List ℕ
write_line ns final = write_text ns ++ string_field final

-- the sheet's buffer, then that of the table of own states
abbrev pub read_line : List ℕ → List ℕ → List ℕ → List ℕ
read_line ns sheet table = read_text ns ++ string_field sheet ++ string_field table

-- a child as class:name, a space before it
abbrev pub child_field : ℕ → ℕ → List ℕ
child_field class name = number_text class ++ 58 ∷ decimal_text name

-- each child of a list of pairs; a last byte without its pair is none
unfoldable pub child_fields : List ℕ → List ℕ
child_fields [] = []
child_fields (class ∷ []) = []
child_fields (class ∷ name ∷ rest) = child_field class name ++ child_fields rest

-- the numbers are those of a loop: no refusal, and the case after `free`
abbrev pub is_loop : List ℕ → Bool
is_loop ns = eqb (get_or ns 0 1) 0 && eqb (get_or ns 1 0) 1

-- the line that loopcheck prints: the loop question's answer, each child of a loop's list, a line feed
abbrev pub loopcheck_line : List ℕ → List ℕ → List ℕ
loopcheck_line ns list = loop_text ns ++ cond (is_loop ns) (child_fields list) [] ++ 10 ∷ []
