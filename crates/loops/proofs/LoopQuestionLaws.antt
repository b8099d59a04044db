-- Laws about specs/LoopQuestion.antt: the reply for each way that the question goes, and that the code's answer there is the reply.
-- Assumes nothing.
use Prim.Native.Nat.{ℕ, ◌*◌, ◌<◌, ◌≤◌}
use native.Mathlib.Omega.{arith}
use mathlib.Core.Path.{◌≡◌, refl, sym, ◌∙◌, ap, subst}
use mathlib.Core.Bool.{Bool, true, false, not}
use mathlib.Core.List.{List, [], ◌∷◌}
use lib.ListN.{length}
use borrow.Author.Tests.{le-leb, lt-leb}
use Rattle.model.specs.Tree.{Child, Class}
use Rattle.model.specs.Crews.{child_classes}
use Rattle.model.specs.Replies.{Reply, refuse, give, written, Answered}
use Rattle.model.specs.Answers.{loop_numbers, LoopAnswer}
use Rattle.model.proofs.Words.{passed, not_passed}
use Rattle.model.proofs.AnswerLaws.{same_loop}
use Rattle.model.proofs.ReplyLaws.{answered, answered_once}
use Rattle.records.specs.Bytes.{in_fours}
use Rattle.sheet.specs.Contents.{body}
use Rattle.sheet.specs.Reading.{class_of}
use Rattle.sheet.specs.Verdict.{Stands}
use Rattle.sheet.specs.declared.judging.Places.{Places}
use Rattle.children.specs.ChildList.{pairs}
use Rattle.configurations.specs.Configurations.{name_count, chosen, list_of}
use Rattle.configurations.specs.LoopAnswer.{Loops, loop, free, loop_answer}
use Rattle.configurations.specs.Cells.{cells_of, first_twenty}
use Rattle.configurations.specs.declared.Cells.{Cells}
use Rattle.blocks.specs.Search.{CellsOf, Found}
use Rattle.std.specs.Prelude.{Result, Ok, Err}
use Rattle.loops.specs.Cells.{present_cells}
use Rattle.loops.specs.Chase.{returning_state}
use Rattle.loops.specs.LoopQuestion.{bits_below, present_right, bytes_of_loops, reply_loop, loops_values}
use Rattle.loops.proofs.PresentLaws.{set_below}
use Rattle.loops.proofs.CellsAgree.{classes_are, cells_own, number_own}

-- the reply: 13, 14, 15, or the answer
module _ (c : Class) (present : ℕ) (out : List ℕ) where
  bit_reply : present_right c present ≡ false → reply_loop c present out ≡ refuse 13
  unfolding reply_loop
  bit_reply h = rw h

  many_reply : present_right c present ≡ true → 20 < name_count c present → reply_loop c present out ≡ refuse 14
  unfolding reply_loop
  many_reply h n = rw (h, lt-leb (name_count c present) 20 n)

  short_reply : present_right c present ≡ true → name_count c present ≤ 20 → length out < 2 * name_count c present → reply_loop c present out ≡ refuse 15
  unfolding reply_loop
  short_reply h n r = rw (h, le-leb (name_count c present) 20 n, lt-leb (2 * name_count c present) (length out) r)

  pub given_reply : present_right c present ≡ true → name_count c present ≤ 20 → 2 * name_count c present ≤ length out → (a : Loops) → a ≡ loop_answer c present
      → reply_loop c present out ≡ give a (bytes_of_loops a)
  unfolding reply_loop
  given_reply h n r a e = rw (h, le-leb (name_count c present) 20 n, le-leb (2 * name_count c present) (length out) r, ← e)

-- the code's test of the present bits is the paper's
module _ (b : List ℕ) (p : Places) (s : Stands b p) (present n : ℕ) (e : n ≡ in_fours (body b 0)) (r : Bool) (f : r ≡ bits_below present n) where
  told : r ≡ present_right (class_of b) present
  unfolding present_right
  told = f ∙ ap (bits_below present) (e ∙ sym (classes_are b p s present))

  pub bit_refused : not r ≡ true → (out : List ℕ) → Answered loops_values (reply_loop (class_of b) present out) out (13 ∷ []) out
  bit_refused h out = answered loops_values (reply_loop (class_of b) present out) (refuse 13) (bit_reply (class_of b) present out (not_passed told h)) out out refl

  pub bits_right : not r ≡ false → present_right (class_of b) present ≡ true
  bits_right h = passed told h

-- what is known once the cells are read
pub record CellsRead (b : List ℕ) (p : Places) (present : ℕ) (r : Cells) : Type 0 where
  pub stands : Stands b p
  pub byte : present < 256
  pub right : present_right (class_of b) present ≡ true
  pub read : r ≡ first_twenty (present_cells (body b 0) present)

module _ (b : List ℕ) (p : Places) (present : ℕ) (r : Cells) (known : CellsRead b p present r) where
  number : r.count ≡ name_count (class_of b) present
  number = number_own b p known.stands present r known.read

  pub cells_known : r.count ≤ 20 → CellsOf b present r
  unfolding present_right
  cells_known few = cells_own b p known.stands present r known.read few (set_below present (child_classes (class_of b)) known.byte known.right)

  module _ (out : List ℕ) where
    -- the answer's numbers and the buffer afterwards are those of the reply
    abbrev Told : List ℕ → List ℕ → Type 0
    Told answer after = Answered loops_values (reply_loop (class_of b) present out) out answer after

    pub many_refused : 20 < r.count → Told (14 ∷ []) out
    many_refused h =
        let n = number in
        answered loops_values (reply_loop (class_of b) present out) (refuse 14) (many_reply (class_of b) present out known.right (omega arith)) out out refl

    module _ (few : r.count ≤ 20) where
      pub short_refused : length out < 2 * r.count → Told (15 ∷ []) out
      short_refused h =
          let n = number in
          answered loops_values (reply_loop (class_of b) present out) (refuse 15) (short_reply (class_of b) present out known.right (omega arith) (omega arith)) out out refl

      module _ (room : 2 * r.count ≤ length out) where
        given : (a : Loops) → a ≡ loop_answer (class_of b) present → (after : List ℕ) → after ≡ written (bytes_of_loops a) out → Told (0 ∷ loops_values a) after
        given a e after g =
            let n = number in
            answered loops_values (reply_loop (class_of b) present out) (give a (bytes_of_loops a)) (given_reply (class_of b) present out known.right (omega arith) (omega arith) a e) out after g

        pub found_free : (x : Result ℕ ℕ) → Found b present x → (m : ℕ) → x ≡ Ok m → Told (0 ∷ 0 ∷ m ∷ []) out
        unfolding bytes_of_loops
        found_free x told m f = given (free m) (sym (subst (Found b present) f told)) out refl

        pub found_loop : (x : Result ℕ ℕ) → Found b present x → (k : ℕ) → x ≡ Err k → (q : ℕ) → q ≡ returning_state (class_of b) (chosen (cells_of r) k)
            → (after : List ℕ) → after ≡ written (pairs (chosen (cells_of r) k)) out → Told (0 ∷ 1 ∷ k ∷ q ∷ []) after
        unfolding bytes_of_loops list_of
        found_loop x told k f q e after g =
            let own : chosen (cells_of r) k ≡ list_of (class_of b) present k = ap (λ (xs : List Child). chosen xs k) (cells_known few).own in
            given (loop k q (list_of (class_of b) present k)) (rw (e, own) (sym (subst (Found b present) f told))) after (g ∙ ap (λ (xs : List Child). written (pairs xs) out) own)

-- the promise of `loop_with` leaves one answer and one content of the buffer
pub one_loop_answer : (reply : Reply Loops) (out : List ℕ) (r s : LoopAnswer) (after rest : List ℕ)
    → Answered loops_values reply out (loop_numbers r) after → Answered loops_values reply out (loop_numbers s) rest → (r ≡ s) × (after ≡ rest)
one_loop_answer reply out r s after rest g h = let (n, a) = answered_once loops_values reply out (loop_numbers r) (loop_numbers s) after rest g h in (same_loop r s n, a)
