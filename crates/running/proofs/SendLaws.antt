-- Laws about sending: runs of stores, and the commands for the children of a list that are left at a turn.
-- Assumes nothing.
use Prim.Native.Nat.{ℕ, suc, ◌+◌, ◌*◌, ◌/◌, ◌%◌, ◌<◌, ◌≤◌}
use native.Mathlib.Omega.{arith}
use mathlib.Core.Path.{◌≡◌, refl, sym, ◌∙◌, ap}
use mathlib.Core.Bool.{Bool, true, false}
use mathlib.Core.List.{List, [], ◌∷◌, ◌++◌, append-nil}
use lib.Dec.{eqb}
use lib.ListN.{length, get_or, drop, set, length-drop, length-append, drop_of_length-le}
use lib.Seq.{sets, sets-eq, length-sets, drop-cons}
use Rattle.model.specs.Words.{kept}
use Rattle.model.specs.Tree.{Child, Pattern, everyone, of_class}
use Rattle.model.specs.Guards.{concerns}
use Rattle.model.specs.Running.{Sent, sent_to}
use Rattle.children.specs.ChildList.{children_of, sent_bytes}
use Rattle.running.specs.Running.{concerned, Writes}
use Rattle.children.proofs.CrewLaws.{no_pair}

-- a run of stores in two parts
pub sets_append : (l : List ℕ) (i : ℕ) (xs ys : List ℕ) → sets l i (xs ++ ys) ≡ sets (sets l i xs) (i + length xs) ys
sets_append l i [] ys = let e : i ≡ i + 0 = omega arith in ap (λ (j : ℕ). sets l j ys) e
sets_append l i (x ∷ xs) ys =
    let e : suc i + length xs ≡ i + suc (length xs) = omega arith in
    sets_append (set l i x) (suc i) xs ys ∙ ap (λ (j : ℕ). sets (sets (set l i x) (suc i) xs) j ys) e

-- no bytes before the others
pub none_before : (e l : List ℕ) → length e ≡ 0 → e ++ l ≡ l
none_before [] l h = refl
none_before (x ∷ e) l h = absurd (omega arith)

-- bytes in as much room as they take
pub sets_all : (l bs : List ℕ) → length l ≡ length bs → sets l 0 bs ≡ bs
sets_all l bs e =
    let h : length l ≤ 0 + length bs = omega arith in
    sets-eq bs l 0 (omega arith) ∙ ap (λ (x : List ℕ). bs ++ x) (drop_of_length-le l h) ∙ append-nil bs

-- the bytes of commands in two parts
pub bytes_append : (xs ys : List Sent) → sent_bytes (xs ++ ys) ≡ sent_bytes xs ++ sent_bytes ys
unfolding sent_bytes
bytes_append [] ys = refl
bytes_append (x ∷ xs) ys = ap (λ (l : List ℕ). x.place % 256 ∷ x.place / 256 ∷ x.command ∷ l) (bytes_append xs ys)

pub bytes_sum : (xs ys : List Sent) → length (sent_bytes (xs ++ ys)) ≡ length (sent_bytes xs) + length (sent_bytes ys)
bytes_sum xs ys = ap length (bytes_append xs ys) ∙ length-append (sent_bytes xs) (sent_bytes ys)

-- three stores, one place apart
pub stored : (l k m n : List ℕ) (at x y z : ℕ) → k ≡ set l at x → m ≡ set k (at + 1) y → n ≡ set m (at + 2) z → n ≡ sets l at (x ∷ y ∷ z ∷ [])
stored l k m n at x y z e f g =
    let p : at + 1 ≡ suc at = omega arith in
    let q : at + 2 ≡ suc (suc at) = omega arith in
    rw (g, f, e, p, q)

-- the children from pair i on
pub pair_at : (l : List ℕ) (i : ℕ) → i < length l / 2
    → children_of (drop (2 * i) l) ≡ record { class = get_or l (2 * i) 0; name = get_or l (suc (2 * i)) 0 } ∷ children_of (drop (2 * (i + 1)) l)
unfolding children_of
pair_at l i p =
    let e : 2 * (i + 1) ≡ suc (suc (2 * i)) = omega arith in
    rw (e, drop-cons l (2 * i) 0 (omega arith), drop-cons l (suc (2 * i)) 0 (omega arith))

-- whether a child is of the pattern goes by its class
pub concerns_told : (p : Pattern) (k : Child) → concerns p k ≡ concerned p k.class
unfolding concerns concerned
concerns_told everyone k = refl
concerns_told (of_class i) k = refl

pub all_meant : (i : ℕ) → true ≡ concerned everyone i
unfolding concerns concerned
all_meant i = refl

pub one_meant : (j i : ℕ) → eqb i j ≡ concerned (of_class j) i
unfolding concerns concerned
one_meant j i = refl

module _ (l : List ℕ) (p : Pattern) (m : ℕ) where
  -- what is sent to the children from pair i on
  abbrev pub left : ℕ → List Sent
  left i = sent_to m p i (children_of (drop (2 * i) l))

  -- that pair is of the pattern
  abbrev pub meant : ℕ → Bool
  meant i = concerned p (get_or l (2 * i) 0)

  -- what was found of the class that was read
  pub sent_told : (i x : ℕ) → x ≡ get_or l (2 * i) 0 → (r : Bool) → r ≡ concerned p x → {b : Bool} → r ≡ b → meant i ≡ b
  sent_told i x e r f g = rw (sym e) (sym f ∙ g)

  left_kept : (i : ℕ) → i < length l / 2 → left i ≡ kept (meant i) (record { place = i; command = m }) (left (i + 1))
  unfolding sent_to
  left_kept i h = rw (pair_at l i h, concerns_told p (record { class = get_or l (2 * i) 0; name = get_or l (suc (2 * i)) 0 }))

  left_one : (i : ℕ) → i < length l / 2 → meant i ≡ true → sent_bytes (left i) ≡ i % 256 ∷ i / 256 ∷ m ∷ sent_bytes (left (i + 1))
  unfolding sent_bytes
  left_one i h t = rw (left_kept i h, t)

  left_past : (i : ℕ) → i < length l / 2 → meant i ≡ false → left i ≡ left (i + 1)
  left_past i h t = left_kept i h ∙ rw t

  left_none : (i : ℕ) → length l / 2 ≤ i → sent_bytes (left i) ≡ []
  unfolding sent_to sent_bytes
  left_none i h = rw (no_pair (drop (2 * i) l) (simp length-drop (omega arith)))

  -- a turn from the first pair on: with what is left to be sent the buffer is as it is to be
  pub record Sending (before : List ℕ) (at : ℕ) (out : List ℕ) (end i : ℕ) : Type 0 where
    pub buffer : sets out end (sent_bytes (left i)) ≡ sets before at (sent_bytes (left 0))
    pub place : end + length (sent_bytes (left i)) ≡ at + length (sent_bytes (left 0))
    pub same : length out ≡ length before

  module _ {before : List ℕ} {at : ℕ} {out : List ℕ} {end i : ℕ} (s : Sending before at out end i) where
    pub send_more : {next : List ℕ} → i < length l / 2 → meant i ≡ true → next ≡ sets out end (i % 256 ∷ i / 256 ∷ m ∷ []) → Sending before at next (end + 3) (i + 1)
    send_more {next} h t e =
        let f : end + 3 ≡ suc (suc (suc end)) = omega arith in
        record {
          buffer = rw (e, f) (rw (left_one i h t) at s.buffer);
          place = omega (arith, s.place, ap length (left_one i h t));
          same = ap length e ∙ length-sets out end (i % 256 ∷ i / 256 ∷ m ∷ []) ∙ s.same;
        }

    pub send_past : i < length l / 2 → meant i ≡ false → Sending before at out end (i + 1)
    send_past h t =
        record {
          buffer = rw (left_past i h t) at s.buffer;
          place = rw (left_past i h t) at s.place;
          same = s.same;
        }

    pub send_end : length l / 2 ≤ i → Writes (left 0) before out at end
    send_end h =
        record {
          buffer = rw (left_none i h) at s.buffer;
          place = omega (arith, s.place, ap length (left_none i h));
        }
