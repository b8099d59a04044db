-- Laws about specs/Phasing.antt: what is answered where a phase loops, settles, or is too long for the buffer.
-- Assumes nothing.
use Prim.Native.Nat.{ℕ, ◌<◌, ◌≤◌}
use native.Mathlib.Omega.{arith}
use mathlib.Core.Path.{◌≡◌, refl, sym, ◌∙◌, ap}
use mathlib.Core.List.{List, ◌∷◌, ◌++◌}
use lib.ListN.{length, get_or, take, drop, length-take}
use Rattle.std.specs.Prelude.{Ok, Err}
use Rattle.model.specs.Running.{Sent}
use Rattle.model.specs.Node as Tree
use Rattle.model.specs.Values.{settled_values}
use Rattle.model.specs.Answers.{ending_as, phased_values, phase_numbers, PhaseAnswer}
use Rattle.model.specs.Replies.{written, Answered}
use Rattle.model.specs.declared.OwnState.{OwnState}
use Rattle.model.specs.Refusals.{number_of}
use Rattle.model.specs.declared.Refusal.{Refusal}
use Rattle.model.specs.declared.Refusal.TheVariants.{Room}
use Rattle.model.specs.declared.Ending.{Ending}
use Rattle.model.specs.declared.Phase.{Phase}
use Rattle.model.specs.declared.Phase.TheVariants.{Settled, Loops as Looping}
use Rattle.model.proofs.ReplyLaws.{answered_short, answered_room, room_refused, room_given}
use Rattle.model.proofs.RefusalLaws.{same_number, not_zero}
use Rattle.children.specs.ChildList.{sent_bytes}
use Rattle.running.proofs.SendLaws.{sets_all}
use Rattle.phases.specs.Phasing.{bytes_of_phase, reply_phase, phasing_values}
use Rattle.phases.specs.Phases.{Walked}

-- an answer, and the buffer afterwards, are those of the phase t
abbrev pub PhasedSo : Tree.Phase → List ℕ → List ℕ → PhaseAnswer → Type 0
PhasedSo t out after r = Answered phasing_values (reply_phase t out) out (phase_numbers r) after

-- 15: what is sent needs more than the buffer holds
pub short_so : (t : Tree.Phase) (out after : List ℕ) → length out < length (bytes_of_phase t) → after ≡ out → PhasedSo t out after (Err Room)
unfolding reply_phase
short_so t out after l same = answered_short phasing_values t (bytes_of_phase t) out after l same

-- with room it is given and written
pub given_so : (t : Tree.Phase) (out after : List ℕ) (r : Phase) → phased_values r ≡ phasing_values t → length (bytes_of_phase t) ≤ length out → after ≡ written (bytes_of_phase t) out → PhasedSo t out after (Ok r)
unfolding reply_phase
given_so t out after r e l w = answered_room phasing_values t (bytes_of_phase t) out (phase_numbers (Ok r)) after l (ap (◌∷◌ 0) e) w

-- the fourth of the values is the number of bytes written
settled_count : (e : Tree.Ending) (q m n : ℕ) → get_or (settled_values e q m n) 3 0 ≡ n
settled_count Tree.by_none q m n = refl
settled_count Tree.by_stay q m n = refl
settled_count (Tree.by_do c) q m n = refl

phase_count : (t : Tree.Phase) → get_or (phasing_values t) 3 0 ≡ length (bytes_of_phase t)
unfolding phasing_values bytes_of_phase sent_bytes
phase_count (Tree.settled e q m sent) = settled_count e q m (length (sent_bytes sent))
phase_count (Tree.loops q m) = refl

-- the first tells a phase that settles from one that loops
settled_first : (e : Tree.Ending) (q m n : ℕ) → get_or (settled_values e q m n) 0 0 < 3
settled_first Tree.by_none q m n = omega arith
settled_first Tree.by_stay q m n = omega arith
settled_first (Tree.by_do c) q m n = omega arith

-- what the phase is whose numbers are those of an answer
module _ (t : Tree.Phase) (before after : List ℕ) (e : Ending) (s : OwnState) (m n : ℕ) (w : Walked t before after (Settled e s m n)) where
  pub count_is : n ≡ length (bytes_of_phase t)
  count_is = sym (settled_count (ending_as e) s.0 m n) ∙ ap (λ (l : List ℕ). get_or l 3 0) w.numbers_are ∙ phase_count t

  is_settled : (d : Tree.Ending) × (q : ℕ) × (k : ℕ) × (sent : List Sent) × (t ≡ Tree.settled d q k sent)
  unfolding phasing_values
  is_settled = go t w.numbers_are
    where
      go : (x : Tree.Phase) → phased_values (Settled e s m n) ≡ phasing_values x → (d : Tree.Ending) × (q : ℕ) × (k : ℕ) × (sent : List Sent) × (x ≡ Tree.settled d q k sent)
      go (Tree.settled d q k sent) h = (d, q, k, sent, refl)
      go (Tree.loops q k) h = absurd (omega (arith, settled_first (ending_as e) s.0 m n, ap (λ (l : List ℕ). get_or l 0 0) h))

  -- the first walk counted more than the buffer holds
  pub short_told : (out final : List ℕ) → final ≡ out → length final < n → PhasedSo t out final (Err Room)
  short_told out final same l = short_so t out final (omega (arith, count_is, ap length same)) same

  -- a second walk on as much of the buffer as was counted
  pub settled_told : (out out' room last : List ℕ) (r : Phase) → out' ≡ out → n ≤ length out' → Walked t room last r → room ≡ take n out' → PhasedSo t out (last ++ drop n out') (Ok r)
  unfolding bytes_of_phase
  settled_told out out' room last r same l W er =
      let (d, q, k, sent, f) = is_settled in
      let bytes_are : bytes_of_phase t ≡ sent_bytes sent = ap bytes_of_phase f in
      let long : n ≡ length (sent_bytes sent) = count_is ∙ ap length bytes_are in
      let c : last ≡ sent_bytes sent = W.written d q k sent f ∙ sets_all room (sent_bytes sent) (omega (arith, ap length er, length-take n out')) in
      let z : n ≡ length (bytes_of_phase t) = count_is in
      given_so t out (last ++ drop n out') r W.numbers_are (omega (arith, count_is, ap length same))
      (rw (z, same) (ap (λ (l : List ℕ). l ++ drop (length (bytes_of_phase t)) out) (c ∙ sym bytes_are)))

-- a phase that loops writes nothing and needs no room
pub loops_told : (t : Tree.Phase) (before after : List ℕ) (s : OwnState) (m : ℕ) → Walked t before after (Looping s m) → (out final : List ℕ) → final ≡ out → PhasedSo t out final (Ok (Looping s m))
unfolding bytes_of_phase phasing_values sent_bytes
loops_told t before after s m w out final same = go t w.numbers_are
  where
    go : (x : Tree.Phase) → phased_values (Looping s m) ≡ phasing_values x → PhasedSo x out final (Ok (Looping s m))
    go (Tree.settled d q k sent) h = absurd (omega (arith, settled_first d q k (length (sent_bytes sent)), ap (λ (l : List ℕ). get_or l 0 0) h))
    go (Tree.loops q k) h = given_so (Tree.loops q k) out final (Looping s m) h (omega arith) same

-- what an answer tells of the phase: refused, there was no room, and nothing was written; given, these are its values and its bytes
pub refused_so : (t : Tree.Phase) (out after : List ℕ) (x : Refusal) → PhasedSo t out after (Err x) → (x ≡ Room) × (length out < length (bytes_of_phase t)) × (after ≡ out)
unfolding reply_phase
refused_so t out after x h =
    let (e, l, same) = room_refused phasing_values t (bytes_of_phase t) out (phase_numbers (Err x)) after h (number_of x) (not_zero x) refl in
    (same_number x Room e, l, same)

pub phase_so : (t : Tree.Phase) (out after : List ℕ) (r : Phase) → PhasedSo t out after (Ok r)
    → (length (bytes_of_phase t) ≤ length out) × (phased_values r ≡ phasing_values t) × (after ≡ written (bytes_of_phase t) out)
unfolding reply_phase
phase_so t out after r h = room_given phasing_values t (bytes_of_phase t) out (phase_numbers (Ok r)) after h (phased_values r) refl
