-- Packing loses nothing: each number of an answer fits its field and is read back, whatever bytes the sheet is.
-- Assumes nothing.
use Prim.Native.Nat.{ℕ, ◌*◌, ◌<◌, ◌≤◌, ◌^◌}
use native.Mathlib.Omega.{arith}
use mathlib.Core.Path.{◌≡◌, refl, ◌∙◌, ap}
use mathlib.Core.Option.{some}
use mathlib.Core.List.{List, [], ◌∷◌}
use lib.Dec.{leb}
use lib.ListN.{length, get_or}
use lib.Pow.{pow_mono}
use borrow.Author.Tests.{leb-true}
use Rattle.model.specs.Tree.{Child, move_to, run, stay, Class}
use Rattle.model.specs.Node.{own_states, Probed, nothing, found, probe, by_none, by_stay, by_do, next, sends, Phase, settled, loops, phase}
use Rattle.model.specs.Moves.{after}
use Rattle.model.specs.Commands.{Handling, handled, ignored, command, left_by, command_then_phase}
use Rattle.model.proofs.NodeLaws.{phase_settled, phase_loops}
use Rattle.model.specs.Words.{Bytes}
use Rattle.sheet.specs.Rules.{Accepted}
use Rattle.sheet.specs.Reading.{class_of}
use Rattle.children.specs.ChildList.{children_of, sent_bytes}
use Rattle.sheet.proofs.Sound.{sound}
use Rattle.configurations.specs.Configurations.{name_count}
use Rattle.configurations.specs.LoopAnswer.{Loops, loop, free, loop_answer}
use Rattle.configurations.specs.Demand.{AnswerRight}
use Rattle.configurations.proofs.Demand.{demanded}
use Rattle.model.specs.Replies.{Reply, refuse, give, numbers}
use Rattle.commands.specs.Handling.{bytes_of_handling, handling_values, bytes_of_commanded, reply_commanded, commanded_values}
use Rattle.phases.specs.Phasing.{bytes_of_phase, reply_phase, phasing_values}
use Rattle.loops.specs.LoopQuestion.{present_right, bytes_of_loops, reply_loop}
use Rattle.writings.specs.Layout.{Named, class_text}
use Rattle.writings.specs.Missing.{names_right}
use Rattle.writings.specs.Writings.{guards_few, reply_text}
use Rattle.bargewicker.specs.Questions.{Question, Answer, accepted, judge, probe_in, phase_from, command_in, loop_with, text_of, probed, phased, commanded, looped, wrote, reply, reply_command}
use Rattle.bargewicker.specs.Numbers.{values, numbers_for}
use Rattle.bargewicker.specs.WrittenBack.{Writable}
use Rattle.bargewicker.proofs.WrittenBack.{written_back}
use Rattle.bw.specs.Packed.{Kinds, word, unpacked, unpacked_both, packed, own_numbers, phase_word, array_after, phase_after, kinds_of_judge, kinds_of_probe, kinds_of_phase, kinds_of_command, kinds_of_loop, kinds_of_text, kinds, held, sheet_of, NothingLost}
use Rattle.children.proofs.ChildListLaws.{children_most}
use Rattle.bargewicker.proofs.AnswerBounds.{few, found_small, do_small, reached_small, left_low, left_small, own_most}
use Rattle.bw.proofs.Checks.{by_sheet, placed_by, told_by}
use Rattle.bw.proofs.PhaseBounds.{phase_small}
use Rattle.bw.proofs.ReadBack.{back_refused, back_accepted, back_nothing, back_clause, back_reached, back_do, back_command, back_unanswered, back_both, back_free, back_loop, back_text}

-- numbers are read back from their word
abbrev ReadBack : Kinds → List ℕ → Type 0
ReadBack ks ns = unpacked ks (word ks ns) ≡ ns

-- and so are those of a reply
abbrev Kept : Kinds → Reply Answer → Type 0
Kept ks r = ReadBack ks (numbers values r)

-- every refusal is read back
no_answer : (ks : Kinds) (n : ℕ) → 1 ≤ n → n ≤ 19 → Kept ks (refuse n)
no_answer ks n l m = back_refused ks n l (omega arith)

accepted_kept : Kept kinds_of_judge (give accepted [])
unfolding values
accepted_kept = back_accepted

-- all that the probe, the when phase and the loop question answer fits
module _ (b : List ℕ) (h : Bytes b) (a : Accepted b) (ks : List Child) where
  abbrev c : Class
  c = class_of b

  probe_kept : (q : ℕ) → Kept kinds_of_probe (give (probed (probe c ks q)) [])
  unfolding values
  probe_kept q = go (probe c ks q) refl
    where
      go : (p : Probed) → probe c ks q ≡ p → Kept kinds_of_probe (give (probed p) [])
      go nothing e = back_nothing
      go (found i (move_to t)) e = let (l, m) = found_small b h a ks q i (move_to t) e in back_clause i 0 t l (omega arith) m
      go (found i (run n)) e = let (l, m) = found_small b h a ks q i (run n) e in back_clause i 1 n l (omega arith) m
      go (found i stay) e = let (l, m) = found_small b h a ks q i stay e in back_clause i 2 0 l (omega arith) (omega arith)

  phase_kept : (q : ℕ) → q < own_states c → length ks ≤ 4096 → Kept kinds_of_phase (give (phased (phase c ks q)) (bytes_of_phase (phase c ks q)))
  unfolding values phasing_values bytes_of_phase
  phase_kept q low k = go (phase c ks q) refl (phase_small b h a ks q low k)
    where
      -- at most S moves lead to a state below S
      way_small : (m r : ℕ) → m ≤ own_states c → after (next c ks) m q ≡ some r → (r < 256) × (m < 256)
      way_small m r l y = let f = few b h a ks in (reached_small b h a ks q low m r y, (omega arith))

      go : (p : Phase) → phase c ks q ≡ p → length (bytes_of_phase p) ≤ 12582912 → Kept kinds_of_phase (give (phased p) (bytes_of_phase p))
      go (loops r m) e n =
          let (x, y) = phase_loops c ks q r m e in
          let (u, v) = way_small m r (omega arith) (ap (λ (j : ℕ). after (next c ks) j q) x ∙ y) in
          back_reached 3 r m 0 (omega arith) u v (omega arith) refl
      go (settled by_none r m sent) e n =
          let S = phase_settled c ks q by_none r m sent e in
          let l = S.fewer in
          let (u, v) = way_small m r (omega arith) S.there.reached in
          back_reached 0 r m (length (sent_bytes sent)) (omega arith) u v (omega arith) refl
      go (settled by_stay r m sent) e n =
          let S = phase_settled c ks q by_stay r m sent e in
          let l = S.fewer in
          let (u, v) = way_small m r (omega arith) S.there.reached in
          back_reached 1 r m (length (sent_bytes sent)) (omega arith) u v (omega arith) refl
      go (settled (by_do x) r m sent) e n =
          let S = phase_settled c ks q (by_do x) r m sent e in
          let l = S.fewer in
          let (u, v) = way_small m r (omega arith) S.there.reached in
          back_do r m (length (sent_bytes sent)) x u v (omega arith) (do_small b h a ks r x (sends c ks r) S.by)

  -- demand 3 bounds the loop question's answer
  loop_kept : (present : ℕ) → name_count c present ≤ 20 → Kept kinds_of_loop (give (looped (loop_answer c present)) (bytes_of_loops (loop_answer c present)))
  unfolding values
  loop_kept present N = go (loop_answer c present) (demanded c (sound b h a) present).right
    where
      go : (x : Loops) → AnswerRight c present x → Kept kinds_of_loop (give (looped x) (bytes_of_loops x))
      go (free m) r = let f = few b h a ks in let l = r.below_states in back_free m (omega arith)
      go (loop k q l) r =
          let f = few b h a ks in
          let u = r.own_state in
          let v = r.configuration in
          let w : 2 ^ name_count c present ≤ 2 ^ 20 = pow_mono N in
          back_loop k q (omega arith) (omega arith)

-- a command's own numbers are read back from its word, and all of them from both words
record KeptBoth (r : Reply Answer) : Type 0 where
  own : ReadBack kinds_of_command (own_numbers (numbers values r))
  both : (before : List ℕ) → unpacked_both (word kinds_of_command (own_numbers (numbers values r))) (get_or (array_after phase_word (numbers values r) before) 0 0) ≡ numbers values r

no_command : (n : ℕ) → 1 ≤ n → n ≤ 19 → KeptBoth (refuse n)
no_command n l m = let e = no_answer kinds_of_command n l m in record { own = e; both = λ before. back_unanswered _ _ n l e }

-- the handling
handling_kept : (x : Handling) → left_by x < 256 → length (bytes_of_handling x) ≤ 12582912 → ReadBack kinds_of_command (0 ∷ handling_values x)
unfolding handling_values
handling_kept (handled sent s) l m = back_command 1 s (length (bytes_of_handling (handled sent s))) (omega arith) l (omega arith) refl
handling_kept (ignored s) l m = back_command 0 s 0 (omega arith) l (omega arith) refl

-- and the phase behind it
both_kept : (x : Handling) (p : Phase) → ReadBack kinds_of_command (0 ∷ handling_values x) → ReadBack kinds_of_phase (0 ∷ phasing_values p)
    → (bytes : List ℕ) → KeptBoth (give (commanded (record { handling = x; phase = p })) bytes)
unfolding values commanded_values handling_values
both_kept (handled sent s) p e f bytes = record { own = e; both = λ before. back_both _ _ (handling_values (handled sent s)) (phasing_values p) e f }
both_kept (ignored s) p e f bytes = record { own = e; both = λ before. back_both _ _ (handling_values (ignored s)) (phasing_values p) e f }

-- and so of every request for a command
command_kept : (b l : List ℕ) (q m : ℕ) (out : List ℕ) → Bytes b → KeptBoth (reply (command_in b l q m out))
unfolding reply reply_command reply_commanded command_then_phase values
command_kept b l q m out h =
    placed_by KeptBoth 19 no_command b l q _ (omega arith) λ a right low.
    told_by KeptBoth 19 no_command commanded (leb m 63) 12 _ (omega arith) (omega arith) λ _.
    told_by KeptBoth 19 no_command commanded (leb (length (bytes_of_commanded (command_then_phase (class_of b) (children_of l) q m))) (length out)) 15 _ (omega arith) (omega arith) λ _.
    let ks = children_of l in
    let x = command (class_of b) ks q m in
    let few = children_most (class_of b) l right in
    both_kept x (phase (class_of b) ks (left_by x)) (handling_kept x (left_small b h a ks q low m) (own_most b h a ks q low m few))
    (phase_kept b h a ks (left_by x) (left_low b h a ks q low m) few) _

-- a text that is written has at most 1,259,860 bytes
text_kept : (b : List ℕ) (n : Named) → Writable b n → Kept kinds_of_text (give (wrote (length (class_text n (class_of b)))) (class_text n (class_of b)))
unfolding values
text_kept b n w = let l = written_back.at_most b n w in back_text (length (class_text n (class_of b))) (omega arith)

-- each number that a word holds is read back
word_kept : (q : Question) → Bytes (sheet_of q) → unpacked (kinds q) (packed q) ≡ held q (numbers_for q)
unfolding packed reply reply_phase reply_loop reply_text
word_kept (judge b) h = by_sheet (Kept kinds_of_judge) 19 (no_answer _) b _ (omega arith) (λ a. accepted_kept)
word_kept (probe_in b l q) h = placed_by (Kept kinds_of_probe) 19 (no_answer _) b l q _ (omega arith) (λ a _ _. probe_kept b h a (children_of l) q)
word_kept (phase_from b l q out) h =
    placed_by (Kept kinds_of_phase) 19 (no_answer _) b l q _ (omega arith) λ a right low.
    told_by (Kept kinds_of_phase) 19 (no_answer _) phased (leb (length (bytes_of_phase (phase (class_of b) (children_of l) q))) (length out)) 15 _ (omega arith) (omega arith) λ _.
    phase_kept b h a (children_of l) q low (children_most (class_of b) l right)
word_kept (command_in b l q m out) h = (command_kept b l q m out h).own
word_kept (loop_with b present out) h =
    by_sheet (Kept kinds_of_loop) 19 (no_answer _) b _ (omega arith) λ a.
    told_by (Kept kinds_of_loop) 19 (no_answer _) looped (present_right (class_of b) present) 13 _ (omega arith) (omega arith) λ _.
    told_by (Kept kinds_of_loop) 19 (no_answer _) looped (leb (name_count (class_of b) present) 20) 14 _ (omega arith) (omega arith) λ e.
    told_by (Kept kinds_of_loop) 19 (no_answer _) looped (leb (2 * name_count (class_of b) present) (length out)) 15 _ (omega arith) (omega arith) λ _.
    loop_kept b h a [] present (leb-true (name_count (class_of b) present) 20 e)
word_kept (text_of b n out) h =
    by_sheet (Kept kinds_of_text) 19 (no_answer _) b _ (omega arith) λ a.
    told_by (Kept kinds_of_text) 19 (no_answer _) wrote (names_right n (class_of b)) 17 _ (omega arith) (omega arith) λ named.
    told_by (Kept kinds_of_text) 19 (no_answer _) wrote (guards_few (class_of b)) 19 _ (omega arith) (omega arith) λ few.
    told_by (Kept kinds_of_text) 19 (no_answer _) wrote (leb (length (class_text n (class_of b))) (length out)) 15 _ (omega arith) (omega arith) λ _.
    text_kept b n (record { bytes = h; accepted = a; named = named; few = few })

pub nothing_lost : NothingLost
unfolding packed phase_after
nothing_lost = record { from_the_word = word_kept; from_both = λ b l q m out before h. (command_kept b l q m out h).both before }
