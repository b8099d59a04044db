-- Laws about question lines: what each field that is read, and each question that is put, makes of the line that is written.
-- Assumes nothing.
use Prim.Native.Nat.{ℕ, ◌≤◌, ◌<◌}
use native.Mathlib.Omega.{arith}
use mathlib.Core.Path.{◌≡◌, refl, sym, ◌∙◌, ap}
use mathlib.Core.Bool.{Bool, true, false, ◌&&◌}
use mathlib.Core.List.{List, [], ◌∷◌}
use lib.Dec.{eqb}
use lib.ListN.{length}
use borrow.Author.Tests.{eq-eqb, eqb-true, le-leb, lt-leb}
use Rattle.model.proofs.Words.{both_ways, and_left, and_right}
use Rattle.bargewicker.specs.Questions.{judge, probe_in, phase_from, command_in, loop_with, reply}
use Rattle.model.specs.Replies.{Answered}
use Rattle.bargewicker.specs.Numbers.{values, numbers_for}
use Rattle.texts.specs.Texts.{Appended}
use Rattle.texts.specs.Fields.{occurs, number_of}
use Rattle.std.specs.Prelude.{Some, None}
use Rattle.lines.specs.Lines.{bad_line, judge_text, probe_text, phase_line, command_line, loop_line}
use Rattle.strings.specs.Strings.{first, others}
use Rattle.asking.specs.Asking.{judge_verb, loop_verb, probe_verb, phase_verb, command_verb, read_verb, write_verb, same_bytes, is_form, verb_of, on_number, with_number, line_of, sending_from, placed_answer, sheet_answer, fields_answer, answer_line}
use Rattle.asking.specs.declared.Asked.{Asked}
use Rattle.asking.specs.declared.Asked.TheVariants as A
use Rattle.asking.specs.declared.Sending.{Sending}
use Rattle.asking.specs.declared.Verb.{Verb}
use Rattle.asking.specs.declared.Verb.TheVariants as W

-- ---- the verb

same_of : (a b : List ℕ) → same_bytes a b ≡ true → a ≡ b
unfolding same_bytes
same_of [] [] h = refl
same_of [] (y ∷ ys) h = absurd (let z : ◌≡◌ {A = ℕ} 0 1 = cc in omega arith)
same_of (x ∷ xs) [] h = absurd (let z : ◌≡◌ {A = ℕ} 0 1 = cc in omega arith)
same_of (x ∷ xs) (y ∷ ys) h =
    let e : x ≡ y = eqb-true x y (and_left (eqb x y) (same_bytes xs ys) h) in
    let f : xs ≡ ys = same_of xs ys (and_right (eqb x y) (same_bytes xs ys) h) in
    cc

same_self : (a : List ℕ) → same_bytes a a ≡ true
unfolding same_bytes
same_self [] = refl
same_self (x ∷ xs) = rw (eq-eqb x x refl) (same_self xs)

pub form_told : (a b : List ℕ) (r : Bool) (spaces n : ℕ) → (r ≡ true → a ≡ b) × (a ≡ b → r ≡ true) → (r && eqb spaces n) ≡ is_form a b spaces n
unfolding is_form
form_told a b r spaces n (there, back) =
    let e : r ≡ same_bytes a b = both_ways r (same_bytes a b) (λ h. let f = there h in rw (sym f) (same_self a)) (λ h. back (same_of a b h)) in
    ap (λ (x : Bool). x && eqb spaces n) e

-- the tests of a verb, one behind the other
module _ (v : List ℕ) (n : ℕ) where
  pub verb_judge : is_form v judge_verb n 1 ≡ true → W.Judge ≡ verb_of v n
  unfolding verb_of
  verb_judge a = rw a

  pub verb_loop : is_form v judge_verb n 1 ≡ false → is_form v loop_verb n 3 ≡ true → W.Loop ≡ verb_of v n
  unfolding verb_of
  verb_loop a b = rw (a, b)

  pub verb_probe : is_form v judge_verb n 1 ≡ false → is_form v loop_verb n 3 ≡ false → is_form v probe_verb n 3 ≡ true → W.Placed A.Probe ≡ verb_of v n
  unfolding verb_of
  verb_probe a b c = rw (a, b, c)

  pub verb_phase : is_form v judge_verb n 1 ≡ false → is_form v loop_verb n 3 ≡ false → is_form v probe_verb n 3 ≡ false → is_form v phase_verb n 4 ≡ true
      → W.Placed A.Phase ≡ verb_of v n
  unfolding verb_of
  verb_phase a b c d = rw (a, b, c, d)

  pub verb_command : is_form v judge_verb n 1 ≡ false → is_form v loop_verb n 3 ≡ false → is_form v probe_verb n 3 ≡ false → is_form v phase_verb n 4 ≡ false
      → is_form v command_verb n 5 ≡ true → W.Placed A.Command ≡ verb_of v n
  unfolding verb_of
  verb_command a b c d e = rw (a, b, c, d, e)

  pub verb_read : is_form v judge_verb n 1 ≡ false → is_form v loop_verb n 3 ≡ false → is_form v probe_verb n 3 ≡ false → is_form v phase_verb n 4 ≡ false
      → is_form v command_verb n 5 ≡ false → is_form v read_verb n 6 ≡ true → W.Read ≡ verb_of v n
  unfolding verb_of
  verb_read a b c d e f = rw (a, b, c, d, e, f)

  pub verb_write : is_form v judge_verb n 1 ≡ false → is_form v loop_verb n 3 ≡ false → is_form v probe_verb n 3 ≡ false → is_form v phase_verb n 4 ≡ false
      → is_form v command_verb n 5 ≡ false → is_form v read_verb n 6 ≡ false → is_form v write_verb n 7 ≡ true → W.Write ≡ verb_of v n
  unfolding verb_of
  verb_write a b c d e f g = rw (a, b, c, d, e, f, g)

  pub verb_other : is_form v judge_verb n 1 ≡ false → is_form v loop_verb n 3 ≡ false → is_form v probe_verb n 3 ≡ false → is_form v phase_verb n 4 ≡ false
      → is_form v command_verb n 5 ≡ false → is_form v read_verb n 6 ≡ false → is_form v write_verb n 7 ≡ false → W.Other ≡ verb_of v n
  unfolding verb_of
  verb_other a b c d e f g = rw (a, b, c, d, e, f, g)

-- ---- fields

-- a number, wrong or read
module _ (l m : List ℕ) (end : ℕ) (f field : List ℕ) (rest : ℕ → List ℕ → List ℕ) (e : field ≡ first f) where
  pub number_wrong : None ≡ number_of field → Appended l m 0 bad_line end → Appended l m 0 (with_number f rest) end
  unfolding with_number on_number
  number_wrong h a = let g : number_of (first f) ≡ None = ap number_of (sym e) ∙ sym h in rw g a

  pub number_read : (n : ℕ) → Some n ≡ number_of field → (g : List ℕ) → g ≡ others f → Appended l m 0 (rest n g) end → Appended l m 0 (with_number f rest) end
  unfolding with_number on_number
  number_read n h g x a =
      let y : number_of (first f) ≡ Some n = ap number_of (sym e) ∙ sym h in
      let z : Appended l m 0 (rest n (others f)) end = rw x at a in
      rw y z

-- ---- questions

module _ (l m : List ℕ) (end : ℕ) (ns : List ℕ) where
  pub phase_put : (b c : List ℕ) (q : ℕ) (out after : List ℕ) → Answered values (reply (phase_from b c q out)) out ns after → Appended l m 0 (phase_line ns after) end
      → Appended l m 0 (line_of (phase_from b c q out)) end
  unfolding line_of
  phase_put b c q out after h a = rw (h.numbers_are, h.buffer_is) at a

  pub command_put : (b c : List ℕ) (q x : ℕ) (out after : List ℕ) → Answered values (reply (command_in b c q x out)) out ns after → Appended l m 0 (command_line ns after) end
      → Appended l m 0 (line_of (command_in b c q x out)) end
  unfolding line_of
  command_put b c q x out after h a = rw (h.numbers_are, h.buffer_is) at a

  pub loop_put : (b : List ℕ) (p : ℕ) (out after : List ℕ) → Answered values (reply (loop_with b p out)) out ns after → Appended l m 0 (loop_line ns after) end
      → Appended l m 0 (line_of (loop_with b p out)) end
  unfolding line_of
  loop_put b p out after h a = rw (h.numbers_are, h.buffer_is) at a

  pub probe_put : (k : Asked) (b c : List ℕ) (q : ℕ) (f : List ℕ) → k ≡ A.Probe → ns ≡ numbers_for (probe_in b c q) → Appended l m 0 (probe_text ns) end
      → Appended l m 0 (placed_answer k b c q f) end
  unfolding line_of placed_answer
  probe_put k b c q f h e a = rw h (rw e at a)

  pub judge_put : (v : Verb) (b f : List ℕ) → v ≡ W.Judge → ns ≡ numbers_for (judge b) → Appended l m 0 (judge_text ns) end
      → Appended l m 0 (sheet_answer v b f) end
  unfolding line_of sheet_answer
  judge_put v b f h e a = rw h (rw e at a)

-- the same kind of question, and the same verb, are answered the same
module _ (l m : List ℕ) (end : ℕ) where
  pub same_sending : (s t : Sending) (b c : List ℕ) (q : ℕ) (out : List ℕ) → s ≡ t → Appended l m 0 (line_of (sending_from t b c q out)) end → Appended l m 0 (line_of (sending_from s b c q out)) end
  same_sending s t b c q out h a = rw h a

  pub same_placed : (j k : Asked) (b c : List ℕ) (q : ℕ) (f : List ℕ) → j ≡ k → Appended l m 0 (placed_answer k b c q f) end → Appended l m 0 (placed_answer j b c q f) end
  same_placed j k b c q f h a = rw h a

  pub same_verb : (v w : Verb) (b f : List ℕ) → v ≡ w → Appended l m 0 (sheet_answer w b f) end → Appended l m 0 (sheet_answer v b f) end
  same_verb v w b f h a = rw h a

-- ---- the line

module _ (l m : List ℕ) (end : ℕ) (line : List ℕ) where
  pub too_long : 1048576 < length line → Appended l m 0 bad_line end → Appended l m 0 (answer_line line) end
  unfolding answer_line
  too_long h a = rw (lt-leb (length line) 1048576 h) a

  pub line_asked : (v : Verb) (n : ℕ) (field f : List ℕ) → length line ≤ 1048576 → field ≡ first line → n ≡ occurs 32 line → v ≡ verb_of field n → f ≡ others line
      → Appended l m 0 (fields_answer v f) end → Appended l m 0 (answer_line line) end
  unfolding answer_line
  line_asked v n field f h x y z w a =
      let u : v ≡ verb_of (first line) (occurs 32 line) = z ∙ ap (λ (t : List ℕ). verb_of t n) x ∙ ap (verb_of (first line)) y in
      rw (le-leb (length line) 1048576 h) (rw (u, w) at a)
