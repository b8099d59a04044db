-- A class text's answer and both buffers after the call make the line.
-- Assumes nothing.
use Prim.Native.Nat.{ℕ}
use mathlib.Core.Path.{◌≡◌, refl, ◌∙◌, ap}
use mathlib.Core.List.{List}
use Rattle.std.specs.Prelude.{Ok, Err}
use Rattle.model.specs.declared.Misread.TheVariants.{Refused, WrongWord}
use Rattle.model.specs.Answers.{read_numbers, ReadAnswer}
use Rattle.readings.specs.Readings.{Lent, Outcome}
use Rattle.readings.specs.Promise as Promise
use Rattle.readings.specs.Promise.{reading_as, came}
use Rattle.readings.specs.Computed.{computed, numbers_in}
use Rattle.readings.proofs.ComputedLaws.{answer_computed}
use Rattle.texts.specs.Texts.{Appended}
use Rattle.lines.specs.Lines.{read_line}
use Rattle.askread.specs.AskRead.{line_of_text}

-- the numbers of an answer to a class text
numbers_read : (r : ReadAnswer) → read_numbers r ≡ numbers_in (reading_as r)
numbers_read (Err (Refused x)) = refl
numbers_read (Err (WrongWord place)) = refl
numbers_read (Ok (length, states)) = refl

pub text_put : (l m : List ℕ) (end : ℕ) (q : Lent) (r : ReadAnswer) (sheet table : List ℕ) → Promise.Answered q r sheet table → Appended l m 0 (read_line (read_numbers r) sheet table) end
    → Appended l m 0 (line_of_text q) end
unfolding line_of_text
text_put l m end q r sheet table h a =
    let e : came r sheet table ≡ computed q = answer_computed q (came r sheet table) h in
    let u : reading_as r ≡ (computed q).reading = ap (λ (o : Outcome). o.reading) e in
    let v : sheet ≡ (computed q).sheet = ap (λ (o : Outcome). o.sheet) e in
    let w : table ≡ (computed q).table = ap (λ (o : Outcome). o.table) e in
    rw (numbers_read r ∙ ap numbers_in u, v, w) at a
