-- The promise of each function of the face. The functions' own contracts cite it: `Promised` is what src/lib.rt ensures.
-- Assumes nothing.
use Rattle.std.specs.Prelude.{ℕ, List, Err}
use Rattle.model.specs.Answers.{judge_numbers, probe_numbers, phase_numbers, command_numbers, loop_numbers, write_numbers, JudgeAnswer, ProbeAnswer, PhaseAnswer, CommandAnswer, LoopAnswer, WriteAnswer}
use Rattle.model.specs.Replies.{Answered}
use Rattle.model.specs.declared.Refusal.{Refusal}
use Rattle.bargewicker.specs.Questions.{Question, judge, probe_in, phase_from, command_in, loop_with, text_of, reply, lent}
use Rattle.bargewicker.specs.Numbers.{values}

-- the type that a question is answered in
abbrev pub AnswerTo : Question → Type 0
AnswerTo (judge b) = JudgeAnswer
AnswerTo (probe_in b l q) = ProbeAnswer
AnswerTo (phase_from b l q out) = PhaseAnswer
AnswerTo (command_in b l q m out) = CommandAnswer
AnswerTo (loop_with b present out) = LoopAnswer
AnswerTo (text_of b n out) = WriteAnswer

-- the answer that refuses
abbrev pub refusing : (q : Question) → Refusal → AnswerTo q
refusing (judge b) x = Err x
refusing (probe_in b l q) x = Err x
refusing (phase_from b l q out) x = Err x
refusing (command_in b l q m out) x = Err x
refusing (loop_with b present out) x = Err x
refusing (text_of b n out) x = Err x

-- the paper's numbers of an answer
abbrev pub numbers_of : (q : Question) → AnswerTo q → List ℕ
numbers_of (judge b) r = judge_numbers r
numbers_of (probe_in b l q) r = probe_numbers r
numbers_of (phase_from b l q out) r = phase_numbers r
numbers_of (command_in b l q m out) r = command_numbers r
numbers_of (loop_with b present out) r = loop_numbers r
numbers_of (text_of b n out) r = write_numbers r

-- what is promised of the answer r and of the lent buffer after the call: both are those of the rules' reply.
-- Where no buffer is lent, none is left
abbrev pub Promised : (q : Question) → AnswerTo q → List ℕ → Type 0
Promised q r after = Answered values (reply q) (lent q) (numbers_of q r) after
