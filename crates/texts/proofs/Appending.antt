-- Laws about texts appended one behind the other.
-- Assumes nothing.
use Prim.Native.Nat.{ℕ, zero, suc, ◌+◌, ◌<◌, ◌≤◌, min}
use native.Mathlib.Omega.{arith}
use native.Mathlib.Numerals.{add-one}
use mathlib.Core.Path.{◌≡◌, refl, sym, ◌∙◌, ap}
use mathlib.Core.Bool.{Bool, true, false}
use mathlib.Core.List.{List, [], ◌∷◌, ◌++◌}
use lib.Dec.{leb}
use lib.ListN.{length, take, drop, get_or, set, length-append}
use lib.Seq.{sets, sets-eq, length-sets, set_out, take-suc, take_all, take_at}
use borrow.Author.Tests.{leb-true, leb-false}
use Rattle.io.proofs.Counting.{prefix_len_of_le}
use Rattle.texts.specs.Texts.{Appended, hex_byte, hex_text}

-- a run of stores in two parts
pub sets_append : (l : List ℕ) (i : ℕ) (xs ys : List ℕ) → sets l i (xs ++ ys) ≡ sets (sets l i xs) (i + length xs) ys
sets_append l i [] ys = let e : i ≡ i + 0 = omega arith in ap (λ (j : ℕ). sets l j ys) e
sets_append l i (x ∷ xs) ys =
    let e : suc i + length xs ≡ i + suc (length xs) = omega arith in
    sets_append (set l i x) (suc i) xs ys ∙ ap (λ (j : ℕ). sets (sets (set l i x) (suc i) xs) j ys) e

-- past the end nothing is stored
pub sets_out : (xs l : List ℕ) (i : ℕ) → length l ≤ i → sets l i xs ≡ l
sets_out [] l i h = refl
sets_out (x ∷ xs) l i h = let e = set_out l i x h in rw e (sets_out xs l (suc i) (omega arith))

-- a place past the end is as good as the end
sets_clipped : (l : List ℕ) (i : ℕ) (xs : List ℕ) → sets l (min i (length l)) xs ≡ sets l i xs
sets_clipped l i xs = go (leb i (length l)) refl
  where
    go : (b : Bool) → leb i (length l) ≡ b → sets l (min i (length l)) xs ≡ sets l i xs
    go true e = let h : min i (length l) ≡ i = omega (arith, leb-true i (length l) e) in ap (λ (j : ℕ). sets l j xs) h
    go false e =
        let h : length l < i = leb-false i (length l) e in
        sets_out xs l (min i (length l)) (omega arith) ∙ sym (sets_out xs l i (omega arith))

-- nothing appended
pub appended_none : (l : List ℕ) (at end : ℕ) → end ≡ min at (length l) → Appended l l at [] end
appended_none l at end e = record { buffer = refl; place = omega arith; counted = prefix_len_of_le end l (omega arith) }

-- one text behind another
pub appended_then : (l m n : List ℕ) (at end stop : ℕ) (s t : List ℕ) → Appended l m at s end → Appended m n end t stop → Appended l n at (s ++ t) stop
appended_then l m n at end stop s t a b =
    let k : length m ≡ length l = ap length a.buffer ∙ length-sets l at s in
    let p : end ≡ min (at + length s) (length m) = omega (arith, a.place) in
    let c : sets m end t ≡ sets m (at + length s) t = ap (λ (j : ℕ). sets m j t) p ∙ sets_clipped m (at + length s) t in
    let d : sets m (at + length s) t ≡ sets (sets l at s) (at + length s) t = ap (λ (x : List ℕ). sets x (at + length s) t) a.buffer in
    record {
      buffer = b.buffer ∙ c ∙ d ∙ sym (sets_append l at s t);
      place = omega (arith, a.place, b.place, length-append s t);
      counted = b.counted;
    }

-- one byte more of a string
pub appended_next : (l m n : List ℕ) (at end stop : ℕ) (s : List ℕ) (i : ℕ) → i < length s → Appended l m at (take i s) end
    → Appended m n end (get_or s i 0 ∷ []) stop → Appended l n at (take (i + 1) s) stop
appended_next l m n at end stop s i h a b = rw (add-one, take-suc s i 0) (appended_then l m n at end stop (take i s) (get_or s i 0 ∷ []) a b)

-- all of a string
pub appended_all : (l m : List ℕ) (at end : ℕ) (s : List ℕ) (i : ℕ) → length s ≤ i → Appended l m at (take i s) end → Appended l m at s end
appended_all l m at end s i h a = rw (take_all i s h) at a

-- what was appended is a string of the same bytes
pub appended_same : (l m : List ℕ) (at end : ℕ) (s t : List ℕ) → s ≡ t → Appended l m at s end → Appended l m at t end
appended_same l m at end s t e a = rw e at a

-- a text appended at the front, where it fits, is what the buffer begins with
pub appended_reads : (l m : List ℕ) (end : ℕ) (s : List ℕ) → length s ≤ length l → Appended l m 0 s end → (end ≡ length s) × (take end m ≡ s)
appended_reads l m end s h a =
    let e : end ≡ length s = omega (arith, a.place) in
    let f : m ≡ s ++ drop (0 + length s) l = a.buffer ∙ sets-eq s l 0 (omega arith) in
    (e, rw f (take_at s (drop (0 + length s) l) end (sym e)))

-- a byte more, in hex
hex_more : (s : List ℕ) (i : ℕ) → i < length s → hex_text (take (suc i) s) ≡ hex_text (take i s) ++ hex_byte (get_or s i 0)
unfolding hex_text
hex_more [] i h = absurd (omega arith)
hex_more (x ∷ xs) zero h = refl
hex_more (x ∷ xs) (suc i) h = ap (λ (m : List ℕ). hex_byte x ++ m) (hex_more xs i (omega arith))

pub appended_hex : (l m n : List ℕ) (at end stop : ℕ) (s : List ℕ) (i : ℕ) → i < length s → Appended l m at (hex_text (take i s)) end
    → Appended m n end (hex_byte (get_or s i 0)) stop → Appended l n at (hex_text (take (i + 1) s)) stop
appended_hex l m n at end stop s i h a b =
    rw (add-one, hex_more s i h) (appended_then l m n at end stop (hex_text (take i s)) (hex_byte (get_or s i 0)) a b)

pub appended_all_hex : (l m : List ℕ) (at end : ℕ) (s : List ℕ) (i : ℕ) → length s ≤ i → Appended l m at (hex_text (take i s)) end → Appended l m at (hex_text s) end
appended_all_hex l m at end s i h a = rw (take_all i s h) at a
