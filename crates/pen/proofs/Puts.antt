-- Laws of writing: one run of bytes behind another.
-- Assumes nothing.
use Prim.Native.Nat.{ℕ, suc, ◌+◌, ◌≤◌, ◌<◌}
use native.Mathlib.Omega.{arith}
use native.Mathlib.Numerals.{add-one}
use mathlib.Core.Path.{◌≡◌, refl, sym, ◌∙◌, ap, subst}
use mathlib.Core.Logic.{◌⊎◌, inl, inr}
use mathlib.Core.List.{List, [], ◌∷◌, ◌++◌}
use lib.ListN.{length, get_or, take, set, length-append}
use lib.Seq.{sets, length-sets, set_out, take-suc, take_all}
use Rattle.model.proofs.Words.{lt_or_le}
use Rattle.pen.specs.Writing.{last_place, behind, Puts}

-- a run of stores in two parts
pub sets_append : (l : List ℕ) (i : ℕ) (xs ys : List ℕ) → sets l i (xs ++ ys) ≡ sets (sets l i xs) (i + length xs) ys
sets_append l i [] ys = let e : i ≡ i + 0 = omega arith in ap (λ (j : ℕ). sets l j ys) e
sets_append l i (x ∷ xs) ys =
    let e : suc i + length xs ≡ i + suc (length xs) = omega arith in
    sets_append (set l i x) (suc i) xs ys ∙ ap (λ (j : ℕ). sets (sets (set l i x) (suc i) xs) j ys) e

-- past the end of the buffer nothing is stored
pub sets_out : (l : List ℕ) (i : ℕ) (xs : List ℕ) → length l ≤ i → sets l i xs ≡ l
sets_out l i [] h = refl
sets_out l i (x ∷ xs) h = rw (set_out l i x h) (sets_out l (suc i) xs (omega arith))

-- from the last place on, as from a place past it
sets_behind : (l : List ℕ) (at n : ℕ) (xs : List ℕ) → length l ≤ last_place → sets l (behind at n) xs ≡ sets l (at + n) xs
sets_behind l at n xs h = go (lt_or_le (at + n) last_place)
  where
    go : (at + n < last_place) ⊎ (last_place ≤ at + n) → sets l (behind at n) xs ≡ sets l (at + n) xs
    go (inl a) = let e : behind at n ≡ at + n = omega arith in rw e
    go (inr a) = sets_out l (behind at n) xs (omega arith) ∙ sym (sets_out l (at + n) xs (omega arith))

-- nothing written
pub puts_none : (l : List ℕ) (at : ℕ) → length l ≤ last_place → at ≤ last_place → Puts [] l at l at
puts_none l at h k = record { room = h; buffer = refl; place = omega arith }

-- one run of bytes behind another
pub puts_on : {xs ys l m n : List ℕ} {at i j : ℕ} → Puts xs l at m i → Puts ys m i n j → Puts (xs ++ ys) l at n j
puts_on {xs} {ys} {l} {m} {n} {at} {i} {j} p q =
    let k : length (sets l at xs) ≤ last_place = rw (length-sets l at xs) p.room in
    record {
      room = p.room;
      buffer = q.buffer ∙ (rw (p.buffer, p.place) (sets_behind (sets l at xs) at (length xs) ys k) ∙ sym (sets_append l at xs ys));
      place = q.place ∙ rw (p.place, length-append xs ys) (omega arith);
    }

-- what is behind the bytes where they end at a place that a number has
pub puts_place : {bytes l m : List ℕ} {at r : ℕ} → Puts bytes l at m r → at + length bytes ≤ last_place → r ≡ at + length bytes
puts_place {bytes} {at = at} p h = p.place ∙ (let e : behind at (length bytes) ≡ at + length bytes = omega arith in e)

-- the buffer keeps its length
pub puts_length : {bytes before after : List ℕ} {at r : ℕ} → Puts bytes before at after r → length after ≡ length before
puts_length {bytes} {before} {after} {at} p = ap length p.buffer ∙ length-sets before at bytes

-- one byte more of a string
pub byte_more : (bytes before out after : List ℕ) (at end r i : ℕ) → Puts (take i bytes) before at out end → i < length bytes → Puts (get_or bytes i 0 ∷ []) out end after r
    → Puts (take (i + 1) bytes) before at after r
byte_more bytes before out after at end r i p l q =
    subst (λ (x : List ℕ). Puts x before at after r) (sym (rw (add-one i) (take-suc bytes i 0 l))) (puts_on p q)

pub bytes_all : (bytes before out : List ℕ) (at end i : ℕ) → Puts (take i bytes) before at out end → length bytes ≤ i → Puts bytes before at out end
bytes_all bytes before out at end i p h = subst (λ (x : List ℕ). Puts x before at out end) (take_all i bytes h) p

-- the bytes under another name
pub puts_as : {xs ys before after : List ℕ} {at r : ℕ} → xs ≡ ys → Puts xs before at after r → Puts ys before at after r
puts_as {before = before} {after = after} {at = at} {r = r} e p = subst (λ (x : List ℕ). Puts x before at after r) e p

-- a loop that writes: whoever writes what is left has written all
abbrev pub Writing : List ℕ → List ℕ → ℕ → List ℕ → List ℕ → ℕ → Type 0
Writing all before at left out end = (after : List ℕ) (r : ℕ) → Puts left out end after r → Puts all before at after r

pub writing_more : {all before left rest out next bytes : List ℕ} {at end i : ℕ} → Writing all before at left out end → left ≡ bytes ++ rest → Puts bytes out end next i
    → Writing all before at rest next i
writing_more w e p after r q = w after r (rw e (puts_on p q))

pub writing_end : {all before left out : List ℕ} {at end : ℕ} → Writing all before at left out end → left ≡ [] → length out ≤ last_place → end ≤ last_place
    → Puts all before at out end
writing_end {out = out} {end = end} w e h k = w out end (rw e (puts_none out end h k))

-- the same, with what a loop knows beside it: the buffer kept its length, and the place is one that a number has
pub record Going (all before : List ℕ) (at : ℕ) (left out : List ℕ) (end : ℕ) : Type 0 where
  pub writing : Writing all before at left out end
  pub kept : length out ≡ length before
  pub small : end ≤ last_place

pub going_none : (all before : List ℕ) (at : ℕ) → at ≤ last_place → Going all before at all before at
going_none all before at l = record { writing = λ after r p. p; kept = refl; small = l }

pub going_on : {all before left rest out next bytes : List ℕ} {at end i : ℕ} → Going all before at left out end → left ≡ bytes ++ rest → Puts bytes out end next i
    → Going all before at rest next i
going_on g e p = record { writing = writing_more g.writing e p; kept = puts_length p ∙ g.kept; small = (let z = p.place in omega arith) }

pub going_end : {all before left out : List ℕ} {at end : ℕ} → Going all before at left out end → left ≡ [] → length before ≤ last_place → Puts all before at out end
going_end g e h = writing_end g.writing e (let z = g.kept in omega arith) g.small
