-- The promises of the face leave one answer, and one content of a lent buffer.
-- Assumes nothing.
use mathlib.Core.Path.{◌≡◌, sym, ◌∙◌, ap}
use Rattle.std.specs.Prelude.{Ok, Err}
use Rattle.model.specs.declared.Misread.TheVariants.{Refused, WrongWord}
use Rattle.model.specs.Answers.{ReadAnswer}
use Rattle.model.proofs.AnswerLaws.{same_judge, same_probe, same_phase_answer, same_command, same_loop, same_write}
use Rattle.bargewicker.specs.Questions.{Question, judge, probe_in, phase_from, command_in, loop_with, text_of}
use Rattle.bargewicker.specs.Promises.{AnswerTo, numbers_of}
use Rattle.bargewicker.specs.Unique.{Unique}
use Rattle.model.proofs.Words.{clash}
use Rattle.model.proofs.RefusalLaws.{same_number}
use Rattle.readings.proofs.ReadLaws.{reads}
use Rattle.readings.specs.Promise.{reading_as, came}

-- the paper's numbers tell the answers to a question apart
pub told_apart : (q : Question) (r s : AnswerTo q) → numbers_of q r ≡ numbers_of q s → r ≡ s
told_apart (judge b) r s e = same_judge r s e
told_apart (probe_in b l q) r s e = same_probe r s e
told_apart (phase_from b l q out) r s e = same_phase_answer r s e
told_apart (command_in b l q m out) r s e = same_command r s e
told_apart (loop_with b present out) r s e = same_loop r s e
told_apart (text_of b n out) r s e = same_write r s e

-- what an answer to a class text says tells it
pub reading_told : (r s : ReadAnswer) → reading_as r ≡ reading_as s → r ≡ s
reading_told (Err (Refused x)) (Err (Refused y)) e = ap (λ x. Err (Refused x)) (same_number x y (cc))
reading_told (Err (Refused x)) (Err (WrongWord q)) e = absurd (clash (cc))
reading_told (Err (Refused x)) (Ok (l, n)) e = absurd (clash (cc))
reading_told (Err (WrongWord p)) (Err (Refused y)) e = absurd (clash (cc))
reading_told (Err (WrongWord p)) (Err (WrongWord q)) e = ap (λ n. Err (WrongWord n)) (cc)
reading_told (Err (WrongWord p)) (Ok (l, n)) e = absurd (clash (cc))
reading_told (Ok (k, m)) (Err (Refused y)) e = absurd (clash (cc))
reading_told (Ok (k, m)) (Err (WrongWord q)) e = absurd (clash (cc))
reading_told (Ok (k, m)) (Ok (l, n)) e = let f : k ≡ l = cc in let g : m ≡ n = cc in λ i. Ok (f i, g i)

pub unique : Unique
unique =
    record {
      sheets = λ q r s x y f g. (told_apart q r s (f.numbers_are ∙ sym g.numbers_are), f.buffer_is ∙ sym g.buffer_is);
      texts = λ q r s x y u v f g.
          let e = reads.one.one_answer q (came r x y) (came s u v) f g in
          (reading_told r s (ap (λ o. o.reading) e), ap (λ o. o.sheet) e, ap (λ o. o.table) e);
    }
