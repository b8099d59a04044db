-- What the answer for a head says of the head: that it is read, and with which lists; or that it is wrong.
-- Assumes nothing.
use Prim.Native.Nat.{ℕ, ◌≤◌}
use mathlib.Core.Path.{◌≡◌, sym, ◌∙◌, ap}
use mathlib.Core.List.{List}
use lib.ListN.{length, drop, replicate, length-replicate}
use lib.Seq.{take-append_seam}
use Rattle.std.specs.Prelude.{Ok, Err}
use Rattle.naming.specs.NameLists.{Lists}
use Rattle.grammar.proofs.Machine.{clash}
use Rattle.classfile.specs.Heads as H
use Rattle.classfile.specs.Heads.{head_of, room}
use Rattle.classfile.specs.Reads.{Answer, bad_line, head_answer, Fits, Inside, HeadRead, rooms, answer_of, lists_of, over, used, shown}
use Rattle.classfile.specs.declared.parts.Fault.{Fault}
use Rattle.classfile.specs.declared.heads.Used.{Used}

-- what the answer counts lies inside
pub head_inside : (r : Answer) (file n c k : List ℕ) → Inside r file n c k → (u : Used) (start : ℕ) → r ≡ head_answer u start → Fits u n c k × (start ≤ length file)
head_inside r file n c k i u start e = rw e at i

-- the lists that are read are those of the head
lists_front : (l : Lists) (n c k n' c' k' : List ℕ) → n' ≡ over l.names n → c' ≡ over l.commands c → k' ≡ over l.classes k
    → shown (used (length l.names) (length l.commands) (length l.classes)) n' c' k' ≡ l
lists_front l n c k n' c' k' p q r = rw (p, q, r, take-append_seam l.names (drop (length l.names) n), take-append_seam l.commands (drop (length l.commands) c), take-append_seam l.classes (drop (length l.classes) k))

-- what an answer says
used_in : Answer → Used
used_in (Ok (u, start)) = u
used_in (Err bad) = used 0 0 0

start_in : Answer → ℕ
start_in (Ok (u, start)) = start
start_in (Err bad) = 0

wrong_in : Lists → Answer → H.Outcome
wrong_in l (Ok (u, start)) = H.read l 0
wrong_in l (Err bad) = H.wrong bad.fault bad.start bad.end l

module _ (file n c k : List ℕ) (r : Answer) (n' c' k' : List ℕ) (h : HeadRead file n c k r n' c' k') where
  -- a head that is read
  pub head_read : (u : Used) (start : ℕ) → r ≡ head_answer u start → head_of file (rooms n c k) ≡ H.read (shown u n' c' k') start
  unfolding answer_of lists_of used_in start_in
  head_read u start e = go (head_of file (rooms n c k)) (sym h.answer ∙ e) h.names h.commands h.classes
    where
      go : (o : H.Outcome) → answer_of o ≡ head_answer u start → n' ≡ over (lists_of o).names n → c' ≡ over (lists_of o).commands c → k' ≡ over (lists_of o).classes k
          → o ≡ H.read (shown u n' c' k') start
      go (H.read l s) a p q w =
          let eu : used (length l.names) (length l.commands) (length l.classes) ≡ u = ap used_in a in
          let es : s ≡ start = ap start_in a in
          let el : l ≡ shown u n' c' k' = sym (lists_front l n c k n' c' k' p q w) ∙ ap (λ (v : Used). shown v n' c' k') eu in
          ap (λ (m : Lists). H.read m s) el ∙ ap (λ (a : ℕ). H.read (shown u n' c' k') a) es
      go (H.wrong x s e l) a p q w = absurd (clash (cc))

  -- a head that is not
  pub head_wrong : (x : Fault) (start end : ℕ) → r ≡ bad_line x start end → (l : Lists) × (head_of file (rooms n c k) ≡ H.wrong x start end l)
  unfolding answer_of wrong_in
  head_wrong x start end e = go (head_of file (rooms n c k)) (sym h.answer ∙ e)
    where
      go : (o : H.Outcome) → answer_of o ≡ bad_line x start end → (l : Lists) × (o ≡ H.wrong x start end l)
      go (H.read l s) a = absurd (clash (cc))
      go (H.wrong y s t l) a = (l, ap (wrong_in l) a)

-- empty buffers of full size have that room
pub full_room : rooms (replicate 1024 0) (replicate 2048 0) (replicate 288 0) ≡ room
full_room =
    λ i. record {
      names = length-replicate {A = ℕ} 1024 0 i;
      commands = length-replicate {A = ℕ} 2048 0 i;
      classes = length-replicate {A = ℕ} 288 0 i;
    }
