-- The worked cases of the paper that are marked P, and behind them some in which a DO moves the node and some of commands with the phase behind
-- them, as one table: what each question gives on the paper's sheets A, B and C, and on three made of C.
-- Assumes nothing.
use Rattle.std.specs.Prelude.{ℕ, ◌≡◌, set}
use mathlib.Core.List.{List, [], ◌∷◌, map, Memᴰ}
use Rattle.model.specs.Replies.{buffer_after}
use Rattle.sheet.specs.Samples.{sheet_A, sheet_B, sheet_C}
use Rattle.bargewicker.specs.Questions.{Question, phase_from, command_in, loop_with, reply, lent}
use Rattle.bargewicker.specs.Numbers.{numbers_for}
use Rattle.bargewicker.specs.Promises.{AnswerTo, numbers_of, Promised}

-- child lists of one or two heaters
abbrev pub cold : List ℕ
cold = 0 ∷ 0 ∷ []

abbrev pub hot : List ℕ
hot = 0 ∷ 1 ∷ []

abbrev pub cold_hot : List ℕ
cold_hot = 0 ∷ 0 ∷ 0 ∷ 1 ∷ []

-- lent buffers of three, five, six, seven, eleven and thirteen bytes, no byte of them 0
abbrev pub three : List ℕ
three = 91 ∷ 92 ∷ 93 ∷ []

abbrev pub five : List ℕ
five = 91 ∷ 92 ∷ 93 ∷ 94 ∷ 95 ∷ []

abbrev pub six : List ℕ
six = 91 ∷ 92 ∷ 93 ∷ 94 ∷ 95 ∷ 96 ∷ []

abbrev pub seven : List ℕ
seven = 91 ∷ 92 ∷ 93 ∷ 94 ∷ 95 ∷ 96 ∷ 97 ∷ []

abbrev pub eleven : List ℕ
eleven = 91 ∷ 92 ∷ 93 ∷ 94 ∷ 95 ∷ 96 ∷ 97 ∷ 98 ∷ 99 ∷ 100 ∷ 101 ∷ []

abbrev pub thirteen : List ℕ
thirteen = 91 ∷ 92 ∷ 93 ∷ 94 ∷ 95 ∷ 96 ∷ 97 ∷ 98 ∷ 99 ∷ 100 ∷ 101 ∷ 102 ∷ 103 ∷ []

-- C in which READY does its action clause where any heater is not in HOT
abbrev pub sheet_D : List ℕ
sheet_D = set (set sheet_C 38 1) 39 0

-- D in which that clause moves to HOLD where any heater is not in HOT
abbrev pub sheet_E : List ℕ
sheet_E = set sheet_D 74 0

-- E in which it moves to READY, where it stands
abbrev pub sheet_F : List ℕ
sheet_F = set sheet_E 81 0

-- a question, the paper's numbers of its answer, and the lent buffer afterwards
pub record Case : Type 0 where
  pub question : Question
  pub answer : List ℕ
  pub buffer : List ℕ

abbrev pub asks : Question → List ℕ → List ℕ → Case
asks question answer buffer = record { question = question; answer = answer; buffer = buffer }

abbrev pub cases : List Case
cases =
    -- 1: loop, configuration 3, state 0, list 00 00 00 01
    asks (loop_with sheet_A 1 seven) (0 ∷ 1 ∷ 3 ∷ 0 ∷ []) (0 ∷ 0 ∷ 0 ∷ 1 ∷ 95 ∷ 96 ∷ 97 ∷ []) ∷
    -- 2: free, 1 move
    asks (loop_with sheet_B 1 seven) (0 ∷ 0 ∷ 1 ∷ []) seven ∷
    -- 3: none present: free, 0 moves; free, 1 move
    asks (loop_with sheet_A 0 []) (0 ∷ 0 ∷ 0 ∷ []) [] ∷
    asks (loop_with sheet_B 0 []) (0 ∷ 0 ∷ 1 ∷ []) [] ∷
    -- 4: settled by none, state 0, 1 move, no byte written
    asks (phase_from sheet_A hot 1 five) (0 ∷ 0 ∷ 0 ∷ 1 ∷ 0 ∷ []) five ∷
    -- 5: loop, 2 moves, state 0, no byte written and no room needed
    asks (phase_from sheet_A cold_hot 0 []) (0 ∷ 3 ∷ 0 ∷ 2 ∷ 0 ∷ []) [] ∷
    -- 6: 00 00 04, leaves state 1, and the phase from there: by none, state 0, 1 move; 00 00 04 00 00 05, leaves state 0: by none, state 1, 1 move
    asks (command_in sheet_C hot 0 9 seven) (0 ∷ 1 ∷ 1 ∷ 3 ∷ 0 ∷ 0 ∷ 1 ∷ 0 ∷ []) (0 ∷ 0 ∷ 4 ∷ 94 ∷ 95 ∷ 96 ∷ 97 ∷ []) ∷
    asks (command_in sheet_C cold 0 9 seven) (0 ∷ 1 ∷ 0 ∷ 6 ∷ 0 ∷ 1 ∷ 1 ∷ 0 ∷ []) (0 ∷ 0 ∷ 4 ∷ 0 ∷ 0 ∷ 5 ∷ 97 ∷ []) ∷
    -- 7: ignored, state 0, nothing written; the phase from there: by none, state 0, 0 moves
    asks (command_in sheet_C hot 0 7 seven) (0 ∷ 0 ∷ 0 ∷ 0 ∷ 0 ∷ 0 ∷ 0 ∷ 0 ∷ []) seven ∷
    -- 8: present 2: 13; buffer of 5: 15, of 6: accepted
    asks (loop_with sheet_A 2 seven) (13 ∷ []) seven ∷
    asks (loop_with sheet_A 1 five) (15 ∷ []) five ∷
    asks (loop_with sheet_A 1 six) (0 ∷ 1 ∷ 3 ∷ 0 ∷ []) (0 ∷ 0 ∷ 0 ∷ 1 ∷ 95 ∷ 96 ∷ []) ∷
    -- 10: list 00 03: 10; state 2: 11; command 64: 12
    asks (phase_from sheet_A (0 ∷ 3 ∷ []) 0 five) (10 ∷ []) five ∷
    asks (phase_from sheet_A hot 2 five) (11 ∷ []) five ∷
    asks (command_in sheet_A hot 0 64 seven) (12 ∷ []) seven ∷
    -- a DO that reaches no move_to ends the phase: settled by DO, state 0, 0 moves, 6 bytes, command 9; 15 where one is missing
    asks (phase_from sheet_D cold 0 seven) (0 ∷ 2 ∷ 0 ∷ 0 ∷ 6 ∷ 9 ∷ []) (0 ∷ 0 ∷ 4 ∷ 0 ∷ 0 ∷ 5 ∷ 97 ∷ []) ∷
    asks (phase_from sheet_D cold 0 five) (15 ∷ []) five ∷
    -- a DO that reaches one moves: settled by none, state 1, 1 move, and 00 00 04, which it sent in front of the move_to; free, 1 move
    asks (phase_from sheet_E cold 0 seven) (0 ∷ 0 ∷ 1 ∷ 1 ∷ 3 ∷ []) (0 ∷ 0 ∷ 4 ∷ 94 ∷ 95 ∷ 96 ∷ 97 ∷ []) ∷
    asks (loop_with sheet_E 1 seven) (0 ∷ 0 ∷ 1 ∷ []) seven ∷
    -- a DO that moves to the own state loops, writes nothing and needs no room; loop, configuration 1, state 0, list 00 00
    asks (phase_from sheet_F cold 0 []) (0 ∷ 3 ∷ 0 ∷ 2 ∷ 0 ∷ []) [] ∷
    asks (loop_with sheet_F 1 seven) (0 ∷ 1 ∷ 1 ∷ 0 ∷ []) (0 ∷ 0 ∷ 93 ∷ 94 ∷ 95 ∷ 96 ∷ 97 ∷ []) ∷
    -- a command and a DO behind it: the command's own 6 bytes, then those of the phase; 15 where one is missing
    asks (command_in sheet_D cold 0 9 thirteen) (0 ∷ 1 ∷ 0 ∷ 6 ∷ 2 ∷ 0 ∷ 0 ∷ 6 ∷ 9 ∷ []) (0 ∷ 0 ∷ 4 ∷ 0 ∷ 0 ∷ 5 ∷ 0 ∷ 0 ∷ 4 ∷ 0 ∷ 0 ∷ 5 ∷ 103 ∷ []) ∷
    asks (command_in sheet_D cold 0 9 eleven) (15 ∷ []) eleven ∷
    -- an ignored command is followed by the phase, which needs its room
    asks (command_in sheet_D cold 0 7 seven) (0 ∷ 0 ∷ 0 ∷ 0 ∷ 2 ∷ 0 ∷ 0 ∷ 6 ∷ 9 ∷ []) (0 ∷ 0 ∷ 4 ∷ 0 ∷ 0 ∷ 5 ∷ 97 ∷ []) ∷
    asks (command_in sheet_D cold 0 7 five) (15 ∷ []) five ∷
    -- the command's move_to is none of the phase's moves: leaves state 1, by none, state 1, 0 moves
    asks (command_in sheet_E cold 0 9 seven) (0 ∷ 1 ∷ 1 ∷ 3 ∷ 0 ∷ 1 ∷ 0 ∷ 0 ∷ []) (0 ∷ 0 ∷ 4 ∷ 94 ∷ 95 ∷ 96 ∷ 97 ∷ []) ∷
    -- where the phase loops, the command's own 3 bytes alone are written and needed
    asks (command_in sheet_F cold 0 9 seven) (0 ∷ 1 ∷ 0 ∷ 3 ∷ 3 ∷ 0 ∷ 2 ∷ 0 ∷ []) (0 ∷ 0 ∷ 4 ∷ 94 ∷ 95 ∷ 96 ∷ 97 ∷ []) ∷
    asks (command_in sheet_F cold 0 9 three) (0 ∷ 1 ∷ 0 ∷ 3 ∷ 3 ∷ 0 ∷ 2 ∷ 0 ∷ []) (0 ∷ 0 ∷ 4 ∷ []) ∷ []

-- what the rules give for the question of a case
unfoldable pub given : Case → Case
given e = asks e.question (numbers_for e.question) (buffer_after (reply e.question) (lent e.question))

-- every case of the table is what the rules give
abbrev pub Worked : Type 0
Worked = map given cases ≡ cases

-- a case holds of the face: whatever meets the promise for its question has its numbers and leaves its buffer
pub record Holds (e : Case) (r : AnswerTo e.question) (after : List ℕ) : Type 0 where
  pub numbers_are : numbers_of e.question r ≡ e.answer
  pub buffer_is : after ≡ e.buffer

-- and so does every case of the table
abbrev pub CasesHold : Type 0
CasesHold = (e : Case) → Memᴰ e cases → (r : AnswerTo e.question) (after : List ℕ) → Promised e.question r after → Holds e r after
