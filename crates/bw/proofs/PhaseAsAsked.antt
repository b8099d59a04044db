-- The word that is lent for the phase behind a command is the one that the when phase has, if it is asked from the state that the command leaves.
-- Assumes nothing.
use Prim.Native.Nat.{ℕ, ◌<◌, ◌≤◌}
use native.Mathlib.Omega.{arith}
use mathlib.Core.Path.{◌≡◌, refl, sym, ◌∙◌, ap, subst}
use mathlib.Core.Bool.{true}
use mathlib.Core.List.{List, [], ◌∷◌, ◌++◌}
use lib.Dec.{leb}
use lib.ListN.{length, drop, length-drop}
use lib.Seq.{drop-append_seam}
use borrow.Author.Tests.{lt-ltb, le-leb, leb-true}
use Rattle.model.specs.Words.{Bytes}
use Rattle.model.specs.Node.{own_states, Phase, phase}
use Rattle.model.specs.Commands.{Handling, handled, ignored, command, left_by, Commanded, command_then_phase}
use Rattle.model.specs.Replies.{Reply, refuse, give, numbers, written, buffer_after}
use Rattle.model.proofs.ReplyLaws.{written_behind}
use Rattle.sheet.specs.Rules.{Accepted}
use Rattle.sheet.specs.Reading.{class_of}
use Rattle.sheet.proofs.AskedLaws.{asked}
use Rattle.children.specs.ChildList.{children_of, list_right, sent_bytes}
use Rattle.children.proofs.ChildListLaws.{children_most}
use Rattle.phases.specs.Phasing.{bytes_of_phase, reply_phase, phasing_values}
use Rattle.commands.specs.Handling.{bytes_of_handling, handling_values, bytes_of_commanded, reply_commanded, commanded_values}
use Rattle.commands.proofs.HandlingLaws.{both_bytes, both_long}
use Rattle.bargewicker.specs.Questions.{Answer, phase_from, command_in, phased, commanded, placed, reply, reply_command}
use Rattle.bargewicker.specs.Numbers.{values}
use Rattle.bargewicker.proofs.AnswerBounds.{left_low, left_small, own_most}
use Rattle.bw.specs.Packed.{refused, state, command_written, read, word, kinds_of_phase, kinds_of_command, own_numbers, phase_behind, phase_word, array_after, phase_after, packed, Returned, PhaseAsAsked}
use Rattle.bw.proofs.Checks.{placed_by, told_by}
use Rattle.bw.proofs.ReadBack.{back_refused, refusal_in, state_back, own_back}

-- a phase that can be asked for and has room is given
phase_given : (b l : List ℕ) (q : ℕ) (out : List ℕ) → Accepted b → list_right (class_of b) l ≡ true → q < own_states (class_of b)
    → let p = phase (class_of b) (children_of l) q in length (bytes_of_phase p) ≤ length out → reply (phase_from b l q out) ≡ give (phased p) (bytes_of_phase p)
unfolding reply reply_phase placed
phase_given b l q out a right low room =
    asked b _ a ∙ rw (right, lt-ltb q (own_states (class_of b)) low, le-leb (length (bytes_of_phase (phase (class_of b) (children_of l) q))) (length out) room)

-- the word of a handling has the state that is left, and the number of its own bytes
own_word : Handling → ℕ
own_word x = word kinds_of_command (0 ∷ handling_values x)

left_read : (x : Handling) → left_by x < 256 → length (bytes_of_handling x) ≤ 12582912 → read (own_word x) state ≡ left_by x
unfolding own_word handling_values
left_read (handled sent s) l m = state_back 1 s (length (bytes_of_handling (handled sent s))) (omega arith) l (omega arith) refl
left_read (ignored s) l m = state_back 0 s 0 (omega arith) l (omega arith) refl

own_read : (x : Handling) → left_by x < 256 → length (bytes_of_handling x) ≤ 12582912 → read (own_word x) command_written ≡ length (bytes_of_handling x)
unfolding own_word handling_values bytes_of_handling sent_bytes
own_read (handled sent s) l m = own_back 1 s (length (bytes_of_handling (handled sent s))) (omega arith) l (omega arith) refl
own_read (ignored s) l m = own_back 0 s 0 (omega arith) l (omega arith) refl

-- the command's own numbers stand in front, and those of the phase behind them
front_is : (x : Handling) (ns : List ℕ) → own_numbers (0 ∷ (handling_values x ++ ns)) ≡ 0 ∷ handling_values x
unfolding handling_values
front_is (handled sent s) ns = refl
front_is (ignored s) ns = refl

behind_is : (x : Handling) (ns : List ℕ) → phase_behind (0 ∷ (handling_values x ++ ns)) ≡ 0 ∷ ns
unfolding handling_values
behind_is (handled sent s) ns = refl
behind_is (ignored s) ns = refl

-- of a reply to a command: where it is no refusal, the phase that is asked for has the lent word, and leaves what stands behind the command's bytes
module _ (b l out before : List ℕ) where
  abbrev first : Reply Answer → ℕ
  first R = word kinds_of_command (own_numbers (numbers values R))

  abbrev Same : Reply Answer → Type 0
  Same R = read (first R) refused ≡ 0 → (s : ℕ) (last : List ℕ) → Returned (phase_from b l (read (first R) state) (drop (read (first R) command_written) out)) s last
      → (array_after phase_word (numbers values R) before ≡ s ∷ []) × (last ≡ drop (read (first R) command_written) (buffer_after R out))

  not_refused : (n : ℕ) → 1 ≤ n → n ≤ 19 → Same (refuse n)
  not_refused n low high z s last R =
      let e : n ≡ 0 = sym (refusal_in kinds_of_command (word kinds_of_command (n ∷ [])) n [] (back_refused kinds_of_command n low (omega arith))) ∙ z in
      absurd (omega arith)

  module _ (x : Handling) (p : Phase) (small : left_by x < 256) (few : length (bytes_of_handling x) ≤ 12582912) where
    abbrev both : Commanded
    both = record { handling = x; phase = p }

    abbrev own : List ℕ
    own = bytes_of_handling x

    given_same : reply (phase_from b l (left_by x) (drop (length own) out)) ≡ give (phased p) (bytes_of_phase p) → Same (give (commanded both) (bytes_of_commanded both))
    unfolding values commanded_values own_word packed
    given_same e z = go _ _ (ap (λ (ns : List ℕ). read (word kinds_of_command ns) state) (front_is x (phasing_values p)) ∙ left_read x small few)
        (ap (λ (ns : List ℕ). read (word kinds_of_command ns) command_written) (front_is x (phasing_values p)) ∙ own_read x small few)
      where
        rest : List ℕ
        rest = written (bytes_of_phase p) (drop (length own) out)

        stands : drop (length own) (written (bytes_of_commanded both) out) ≡ rest
        stands =
            ap (λ (bytes : List ℕ). drop (length own) (written bytes out)) (both_bytes both) ∙ ap (drop (length own)) (written_behind own (bytes_of_phase p) out)
            ∙ drop-append_seam own rest

        go : (t k : ℕ) → t ≡ left_by x → k ≡ length own → (s : ℕ) (last : List ℕ) → Returned (phase_from b l t (drop k out)) s last
            → (array_after phase_word (0 ∷ (handling_values x ++ phasing_values p)) before ≡ s ∷ []) × (last ≡ drop k (written (bytes_of_commanded both) out))
        go t k f g s last R =
            let Q : Returned (phase_from b l (left_by x) (drop (length own) out)) s last = rw (f, g) at R in
            let S : s ≡ word kinds_of_phase (0 ∷ phasing_values p) = Q.word_is ∙ ap (λ (r : Reply Answer). word kinds_of_phase (numbers values r)) e in (
              ap (λ (v : ℕ). v ∷ []) (ap (word kinds_of_phase) (behind_is x (phasing_values p)) ∙ sym S),
              Q.buffer_is ∙ ap (λ (r : Reply Answer). buffer_after r (drop (length own) out)) e ∙ sym (ap (λ (j : ℕ). drop j (written (bytes_of_commanded both) out)) g ∙ stands),
            )

  command_same : (q m : ℕ) → Bytes b → Same (reply (command_in b l q m out))
  unfolding reply reply_command reply_commanded command_then_phase
  command_same q m h =
      placed_by Same 19 not_refused b l q _ (omega arith) λ a right low.
      told_by Same 19 not_refused commanded (leb m 63) 12 _ (omega arith) (omega arith) λ _.
      told_by Same 19 not_refused commanded (leb (length (bytes_of_commanded (command_then_phase (class_of b) (children_of l) q m))) (length out)) 15 _ (omega arith) (omega arith) λ fits.
      let ks = children_of l in
      let x = command (class_of b) ks q m in
      let most = children_most (class_of b) l right in
      let room = leb-true (length (bytes_of_commanded (command_then_phase (class_of b) ks q m))) (length out) fits in
      let n = length (bytes_of_handling x) in
      given_same x (phase (class_of b) ks (left_by x)) (left_small b h a ks q low m) (own_most b h a ks q low m most)
      (phase_given b l (left_by x) (drop n out) a right (left_low b h a ks q low m) (omega (arith, both_long (command_then_phase (class_of b) ks q m), length-drop n out)))

pub phase_as_asked : PhaseAsAsked
unfolding packed phase_after
phase_as_asked b l q m out before h r after lent R z s last S =
    let e = R.returned.word_is in
    let (x, y) =
    command_same b l out before q m h (ap (λ (w : ℕ). read w refused) (sym e) ∙ z) s last
    (subst (λ (w : ℕ). Returned (phase_from b l (read w state) (drop (read w command_written) out)) s last) e S)
    in (R.phase_is ∙ x, y ∙ sym (ap (drop (read r command_written)) R.returned.buffer_is ∙ ap (λ (w : ℕ). drop (read w command_written) (buffer_after (reply (command_in b l q m out)) out)) e))
