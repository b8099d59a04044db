-- From what a head and a class text come to, to what is printed.
-- Assumes nothing.
use Prim.Native.Nat.{ℕ, ◌<◌, ◌≤◌}
use native.Mathlib.Omega.{arith}
use mathlib.Core.Path.{◌≡◌, refl, sym, ◌∙◌, ap, subst}
use mathlib.Core.List.{List}
use lib.ListN.{length, replicate}
use Rattle.naming.specs.NameLists.{Lists}
use Rattle.readings.specs.Promise.{Answered}
use Rattle.classfile.specs.Heads as H
use Rattle.classfile.specs.Heads.{stretch, head_of, Rooms}
use Rattle.classfile.specs.Reads.{Answer, head_answer, bad_line, HeadRead, rooms, shown}
use Rattle.classfile.specs.declared.parts.Fault.{Fault}
use Rattle.classfile.specs.declared.heads.Used.{Used}
use Rattle.classfile.proofs.GivenLaws.{head_read, head_wrong, full_room}
use Rattle.readclass.specs.Made.{size_read, TextRead, Made, Converted}
use Rattle.model.specs.Answers.{ReadAnswer}

module _ (file n c k : List ℕ) (r : Answer) (n' c' k' : List ℕ) (h : HeadRead file n c k r n' c' k') (before : List ℕ) where
  -- a head that is read, and the text behind it
  pub made_read : (u : Used) (start : ℕ) → r ≡ head_answer u start → (size : ℕ) (after : List ℕ)
      → TextRead (stretch file start (length file)) (shown u n' c' k') before size after → Made (head_of file (rooms n c k)) file before size after
  made_read u start e size after t = subst (λ (o : H.Outcome). Made o file before size after) (sym (head_read file n c k r n' c' k' h u start e)) t

  -- a head that is not
  pub made_bad : (x : Fault) (start end : ℕ) → r ≡ bad_line x start end → Made (head_of file (rooms n c k)) file before 0 before
  made_bad x start end e =
      let (l, w) = head_wrong file n c k r n' c' k' h x start end e in
      subst (λ (o : H.Outcome). Made o file before 0 before) (sym w) (refl, refl)

-- a class text that is read, or refused
pub text_read : (text : List ℕ) (l : Lists) (before after table : List ℕ) (answer : ReadAnswer) → Answered (record { text = text; lists = l; sheet = before; table = replicate 1024 0 }) answer after table
    → (seen : ReadAnswer) → answer ≡ seen → (size : ℕ) → size ≡ size_read seen → TextRead text l before size after
text_read text l before after table answer a seen e size p = record { answer = answer; table = table; answered = a; prints = p ∙ ap size_read (sym e) }

-- a file that is too long, and one that is not
pub too_long : (file before : List ℕ) → 1310720 < length file → Converted file before 0 before
too_long file before l = record { long = λ _. (refl, refl); short = λ s. absurd (omega arith) }

pub converted : (file before : List ℕ) (size : ℕ) (after : List ℕ) → length file ≤ 1310720
    → Made (head_of file (rooms (replicate 1024 0) (replicate 2048 0) (replicate 288 0))) file before size after → Converted file before size after
converted file before size after l m =
    record { long = λ s. absurd (omega arith); short = λ _. subst (λ (w : Rooms). Made (head_of file w) file before size after) full_room m }
