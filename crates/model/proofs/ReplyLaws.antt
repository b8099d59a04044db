-- Laws about specs/Replies.antt: a reply that is known, and one told in another type.
-- Assumes nothing.
use Prim.Native.Nat.{ℕ, ◌<◌, ◌≤◌}
use native.Mathlib.Omega.{arith}
use mathlib.Core.Path.{◌≡◌, refl, sym, ap, ◌∙◌}
use mathlib.Core.List.{List, [], ◌∷◌, ◌++◌, append_assoc, head-eq_of_cons-eq, tail-eq_of_cons-eq}
use mathlib.Core.Logic.{◌⊎◌, inl, inr}
use lib.ListN.{length, drop, length-append}
use lib.Seq.{drop-drop}
use borrow.Author.Tests.{le-leb, lt-leb}
use Rattle.model.specs.Replies.{Reply, refuse, give, in_room, written, told_as, numbers, buffer_after, Answered}
use Rattle.model.proofs.Words.{lt_or_le}

-- a reply that is known is answered by what its numbers are, and leaves its buffer
pub answered_by : {A : Type 0} (values : A → List ℕ) (reply r : Reply A) → reply ≡ r → (out ns after : List ℕ) → ns ≡ numbers values r → after ≡ buffer_after r out
    → Answered values reply out ns after
answered_by {A} values reply r e out ns after f g =
    record { numbers_are = f ∙ ap (numbers values) (sym e); buffer_is = g ∙ ap (λ (x : Reply A). buffer_after x out) (sym e) }

pub answered : {A : Type 0} (values : A → List ℕ) (reply r : Reply A) → reply ≡ r → (out after : List ℕ) → after ≡ buffer_after r out
    → Answered values reply out (numbers values r) after
answered values reply r e out after f = answered_by values reply r e out (numbers values r) after refl f

-- an answer that writes more bytes than the buffer holds is refused by 15, and given where there is room
pub answered_short : {A : Type 0} (values : A → List ℕ) (a : A) (bytes out after : List ℕ) → length out < length bytes → after ≡ out
    → Answered values (in_room a bytes out) out (15 ∷ []) after
answered_short values a bytes out after l same = answered_by values (in_room a bytes out) (refuse 15) (rw (lt-leb (length bytes) (length out) l)) out (15 ∷ []) after refl same

pub answered_room : {A : Type 0} (values : A → List ℕ) (a : A) (bytes out ns after : List ℕ) → length bytes ≤ length out → ns ≡ 0 ∷ values a → after ≡ written bytes out
    → Answered values (in_room a bytes out) out ns after
answered_room values a bytes out ns after l e w = answered_by values (in_room a bytes out) (give a bytes) (rw (le-leb (length bytes) (length out) l)) out ns after e w

-- and what such an answer tells: where it is a refusal, there is no room, and nothing was written; where it is given, there is
module _ {A : Type 0} (values : A → List ℕ) (a : A) (bytes out ns after : List ℕ) (h : Answered values (in_room a bytes out) out ns after) where
  pub room_refused : (n : ℕ) → (n ≡ 0 → ⊥) → ns ≡ n ∷ [] → (n ≡ 15) × (length out < length bytes) × (after ≡ out)
  room_refused n some e = go (lt_or_le (length out) (length bytes))
    where
      go : (length out < length bytes) ⊎ (length bytes ≤ length out) → (n ≡ 15) × (length out < length bytes) × (after ≡ out)
      go (inl l) =
          let w = answered_short values a bytes out out l refl in
          (head-eq_of_cons-eq (sym e ∙ h.numbers_are ∙ sym w.numbers_are), l, h.buffer_is ∙ sym w.buffer_is)
      go (inr l) =
          let w = answered_room values a bytes out (0 ∷ values a) (written bytes out) l refl refl in
          absurd (some (head-eq_of_cons-eq (sym e ∙ h.numbers_are ∙ sym w.numbers_are)))

  pub room_given : (ms : List ℕ) → ns ≡ 0 ∷ ms → (length bytes ≤ length out) × (ms ≡ values a) × (after ≡ written bytes out)
  room_given ms e = go (lt_or_le (length out) (length bytes))
    where
      go : (length out < length bytes) ⊎ (length bytes ≤ length out) → (length bytes ≤ length out) × (ms ≡ values a) × (after ≡ written bytes out)
      go (inl l) =
          let w = answered_short values a bytes out out l refl in
          let z : ◌≡◌ {A = ℕ} 0 15 = head-eq_of_cons-eq (sym e ∙ h.numbers_are ∙ sym w.numbers_are) in
          absurd (omega arith)
      go (inr l) =
          let w = answered_room values a bytes out (0 ∷ values a) (written bytes out) l refl refl in
          (l, tail-eq_of_cons-eq (sym e ∙ h.numbers_are ∙ sym w.numbers_are), h.buffer_is ∙ sym w.buffer_is)

-- what is written in two parts: the second at the head of the buffer behind the first
pub written_behind : (xs ys out : List ℕ) → written (xs ++ ys) out ≡ xs ++ written ys (drop (length xs) out)
written_behind xs ys out =
    append_assoc xs ys (drop (length (xs ++ ys)) out)
    ∙ ap (λ (l : List ℕ). xs ++ (ys ++ l)) (ap (λ (n : ℕ). drop n out) (length-append xs ys) ∙ sym (drop-drop (length ys) (length xs) out))

-- a reply has one answer's numbers, and leaves one buffer
pub answered_once : {A : Type 0} (values : A → List ℕ) (reply : Reply A) (out ns ms after rest : List ℕ)
    → Answered values reply out ns after → Answered values reply out ms rest → (ns ≡ ms) × (after ≡ rest)
answered_once values reply out ns ms after rest g h = (g.numbers_are ∙ sym h.numbers_are, g.buffer_is ∙ sym h.buffer_is)

-- a reply told in another type, in which the values are the same, has the same numbers and leaves the same buffer
module _ {A B : Type 0} (f : A → B) (values : A → List ℕ) (told_values : B → List ℕ) (same : (a : A) → told_values (f a) ≡ values a) where
  told_numbers : (r : Reply A) → numbers told_values (told_as f r) ≡ numbers values r
  told_numbers (refuse n) = refl
  told_numbers (give a bytes) = ap (◌∷◌ 0) (same a)

  told_buffer : (r : Reply A) (out : List ℕ) → buffer_after (told_as f r) out ≡ buffer_after r out
  told_buffer (refuse n) out = refl
  told_buffer (give a bytes) out = refl

  pub answered_as : (r : Reply A) (out answer after : List ℕ) → Answered values r out answer after → Answered told_values (told_as f r) out answer after
  answered_as r out answer after h =
      record { numbers_are = h.numbers_are ∙ sym (told_numbers r); buffer_is = h.buffer_is ∙ sym (told_buffer r out) }

  pub answered_back : (r : Reply A) (out answer after : List ℕ) → Answered told_values (told_as f r) out answer after → Answered values r out answer after
  answered_back r out answer after h =
      record { numbers_are = h.numbers_are ∙ told_numbers r; buffer_is = h.buffer_is ∙ told_buffer r out }
