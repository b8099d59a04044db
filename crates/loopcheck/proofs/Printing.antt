-- From the loop question's answer to the line: what is written at the head of the buffer is the line of the sheet.
-- Assumes nothing.
use Prim.Native.Nat.{ℕ, ◌+◌, ◌*◌, ◌≤◌}
use native.Mathlib.Omega.{arith}
use mathlib.Core.Path.{◌≡◌, sym, ◌∙◌, ap, ap₂}
use mathlib.Core.List.{List, ◌++◌}
use lib.ListN.{length, take, drop, take-append-drop, length-take}
use lib.Seq.{drop_at, sets-eq}
use Rattle.model.specs.Replies.{Answered}
use Rattle.model.specs.Answers.{loop_numbers, LoopAnswer}
use Rattle.loops.specs.LoopQuestion.{loops_values}
use Rattle.texts.specs.Texts.{Appended}
use Rattle.texts.proofs.Appending.{appended_reads}
use Rattle.lines.specs.Lines.{loopcheck_line}
use Rattle.lines.proofs.LineLaws.{line_fits}
use Rattle.loopcheck.specs.Line.{loop_reply, room, bytes_of, line, Printed, children_in}
use Rattle.loopcheck.proofs.Pairs.{Paired, paired, read_back}

-- a text at the head of the buffer that is the line
text_printed : (b l m s : List ℕ) (r : ℕ) → length s ≤ length l → s ≡ line b → Appended l m 0 s r → Printed b l m r
text_printed b l m s r short e a =
    let (size, text) = appended_reads l m r s short a in
    let here : 0 + length s ≡ r = omega (arith, size) in
    let all : m ≡ s ++ drop (0 + length s) l = a.buffer ∙ sets-eq s l 0 (omega arith) in
    record {
      size = size ∙ ap length e;
      text = text ∙ e;
      kept = ap (drop r) all ∙ drop_at s (drop (0 + length s) l) r (sym size) ∙ ap (λ (n : ℕ). drop n l) here;
    }

-- the answer has at most 20 children; its line, with the pairs that were written, is the sheet's
module _ (b after : List ℕ) (a : LoopAnswer) (h : Answered loops_values (loop_reply b room) room (loop_numbers a) after) where
  few_pairs : Paired (bytes_of (loop_reply b room)) (children_in a)
  few_pairs = paired b room a h.numbers_are

  pub few : children_in a ≤ 20
  few = few_pairs.few

  pub printed : (l m : List ℕ) (r n : ℕ) → n ≡ children_in a → length l ≡ 1024 → Appended l m 0 (loopcheck_line (loop_numbers a) (take (2 * n) after)) r → Printed b l m r
  unfolding line
  printed l m r n c size =
      let p : Paired (bytes_of (loop_reply b room)) n = rw c few_pairs in
      let back : take (2 * n) after ≡ bytes_of (loop_reply b room) = read_back (loop_reply b room) n p room after h.buffer_is in
      let e : loopcheck_line (loop_numbers a) (take (2 * n) after) ≡ line b = ap₂ loopcheck_line h.numbers_are back in
      text_printed b l m (loopcheck_line (loop_numbers a) (take (2 * n) after)) r
      (omega (arith, line_fits a (take (2 * n) after) (omega (arith, length-take (2 * n) after, p.few)), size)) e

-- the line lies within the buffer
pub printed_fits : (b l m : List ℕ) (r : ℕ) → Printed b l m r → (r ≤ length m) × (r ≡ length (take r m))
printed_fits b l m r p =
    let e : r ≡ length (take r m) = p.size ∙ ap length (sym p.text) in
    (omega (arith, e, length-take r m), e)

-- the promise leaves one answer and one content of the buffer
pub one_line : (b l m n : List ℕ) (r s : ℕ) → Printed b l m r → Printed b l n s → (r ≡ s) × (m ≡ n)
one_line b l m n r s p q =
    let e : r ≡ s = p.size ∙ sym q.size in
    let f : take r m ≡ take r n = p.text ∙ sym q.text ∙ ap (λ (i : ℕ). take i n) (sym e) in
    let g : drop r m ≡ drop r n = p.kept ∙ ap (λ (i : ℕ). drop i l) e ∙ sym q.kept ∙ ap (λ (i : ℕ). drop i n) (sym e) in
    (e, sym (take-append-drop r m) ∙ ap (λ (x : List ℕ). x ++ drop r m) f ∙ ap (λ (x : List ℕ). take r n ++ x) g ∙ take-append-drop r n)
