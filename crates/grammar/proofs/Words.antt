-- Laws of the words: each is at least one byte and within the text, they rise, and the words from a place on are those of the bytes from there.
-- Assumes nothing.
use Prim.Native.Nat.{ℕ, zero, suc, ◌+◌, ◌-◌, ◌<◌, ◌≤◌}
use native.Mathlib.Omega.{arith}
use mathlib.Core.Path.{◌≡◌, refl, ◌∙◌, ap}
use mathlib.Core.Bool.{Bool, true, false, ◌&&◌, ◌||◌}
use mathlib.Core.List.{List, [], ◌∷◌}
use lib.Dec.{eqb}
use lib.ListN.{length, get_or, take, drop, length-take}
use borrow.Author.Tests.{eqb-true}
use Rattle.model.specs.Words.{choose, listed}
use Rattle.grammar.specs.Words.{Word, white, name_char, same, run_length, colon_run, spelled, begins, run_end, dollar_length, word_length, word_at, end_at, cut}
use Rattle.grammar.proofs.Machine.{clash}

pub and_left : (a b : Bool) → (a && b) ≡ true → a ≡ true
and_left true b h = refl
and_left false b h = h

pub and_right : (a b : Bool) → (a && b) ≡ true → b ≡ true
and_right true b h = h
and_right false b h = absurd (clash (cc))

-- a length that a word can have
pub record Fits (n : ℕ) (l : List ℕ) : Type 0 where
  pub some_byte : 1 ≤ n
  pub inside : n ≤ length l

pub run_inside : (l : List ℕ) → run_length l ≤ length l
unfolding run_length
run_inside [] = omega arith
run_inside (b ∷ bs) = go (name_char b) (run_inside bs)
  where
    go : (t : Bool) → run_length bs ≤ length bs → choose t (λ _. suc (run_length bs)) (λ _. 0) ≤ suc (length bs)
    go true h = let e : suc (run_length bs) ≤ suc (length bs) = omega arith in e
    go false h = let e : 0 ≤ suc (length bs) = omega arith in e

-- a byte that is not 0 stands inside
pub byte_inside : (l : List ℕ) (n : ℕ) → get_or l n 0 ≡ 58 → n < length l
byte_inside [] zero e = absurd (let z : 0 ≡ 58 = e in omega arith)
byte_inside [] (suc n) e = absurd (let z : 0 ≡ 58 = e in omega arith)
byte_inside (b ∷ bs) zero e = omega arith
byte_inside (b ∷ bs) (suc n) e = let h = byte_inside bs n e in omega arith

pub same_length : (a b : List ℕ) → same a b ≡ true → length a ≡ length b
unfolding same
same_length [] [] e = refl
same_length [] (y ∷ ys) e = absurd (clash (cc))
same_length (x ∷ xs) [] e = absurd (clash (cc))
same_length (x ∷ xs) (y ∷ ys) e = ap suc (same_length xs ys (and_right (eqb x y) (same xs ys) e))

-- two that are the same are equal
pub same_equal : (a b : List ℕ) → same a b ≡ true → a ≡ b
unfolding same
same_equal [] [] h = refl
same_equal [] (y ∷ ys) h = absurd (clash (cc))
same_equal (x ∷ xs) [] h = absurd (clash (cc))
same_equal (x ∷ xs) (y ∷ ys) h = rw (eqb-true x y (and_left (eqb x y) (same xs ys) h), same_equal xs ys (and_right (eqb x y) (same xs ys) h))

pub begins_inside : (w l : List ℕ) → begins w l ≡ true → length w ≤ length l
begins_inside w l e =
    let h = same_length w (take (length w) l) e in
    let k = length-take (length w) l in
    omega (arith, h, k)

run_end_fits : (l : List ℕ) (n : ℕ) → 1 ≤ n → n ≤ length l → Fits (run_end l n) l
unfolding run_end
run_end_fits l n a b = go (colon_run (take n l)) (eqb (get_or l n 0) 58) refl
  where
    go : (t u : Bool) → eqb (get_or l n 0) 58 ≡ u → Fits (choose (t && u) (λ _. suc n) (λ _. n)) l
    go true true e = let h = byte_inside l n (eqb-true (get_or l n 0) 58 e) in record { some_byte = omega arith; inside = omega arith }
    go true false e = record { some_byte = a; inside = b }
    go false u e = record { some_byte = a; inside = b }

dollar_fits : (b : ℕ) (bs : List ℕ) → Fits (dollar_length (b ∷ bs)) (b ∷ bs)
unfolding dollar_length spelled listed
dollar_fits b bs = go (begins (spelled "$FWPART_$TOP$") (b ∷ bs)) (begins (spelled "$ANY$") (b ∷ bs)) (begins (spelled "$ALL$") (b ∷ bs)) refl refl refl
  where
    go : (t u v : Bool) → begins (spelled "$FWPART_$TOP$") (b ∷ bs) ≡ t → begins (spelled "$ANY$") (b ∷ bs) ≡ u → begins (spelled "$ALL$") (b ∷ bs) ≡ v
        → Fits (choose t (λ _. 13) (λ _. choose (u || v) (λ _. 5) (λ _. 1))) (b ∷ bs)
    go true u v e f g = record { some_byte = (omega arith); inside = begins_inside (spelled "$FWPART_$TOP$") (b ∷ bs) e }
    go false true v e f g = record { some_byte = (omega arith); inside = begins_inside (spelled "$ANY$") (b ∷ bs) f }
    go false false true e f g = record { some_byte = (omega arith); inside = begins_inside (spelled "$ALL$") (b ∷ bs) g }
    go false false false e f g = record { some_byte = (let z : 1 ≤ 1 = omega arith in z); inside = (let z : 1 ≤ suc (length bs) = omega arith in z) }

run_some : (b : ℕ) (bs : List ℕ) → name_char b ≡ true → 1 ≤ run_length (b ∷ bs)
unfolding run_length
run_some b bs e = rw e (let z : 1 ≤ suc (run_length bs) = omega arith in z)

pub word_fits : (b : ℕ) (bs : List ℕ) → Fits (word_length (b ∷ bs)) (b ∷ bs)
unfolding word_length
word_fits b bs = go (name_char b) refl (eqb b 36)
  where
    go : (t : Bool) → name_char b ≡ t → (d : Bool)
        → Fits (choose t (λ _. run_end (b ∷ bs) (run_length (b ∷ bs))) (λ _. choose d (λ _. dollar_length (b ∷ bs)) (λ _. 1))) (b ∷ bs)
    go true e d = run_end_fits (b ∷ bs) (run_length (b ∷ bs)) (run_some b bs e) (run_inside (b ∷ bs))
    go false e true = dollar_fits b bs
    go false e false = record { some_byte = (let z : 1 ≤ 1 = omega arith in z); inside = (let z : 1 ≤ suc (length bs) = omega arith in z) }

-- what is passed over
pub cut_skip : (l : List ℕ) (k at to : ℕ) → k ≤ length l → to ≡ at + k → cut k at l ≡ cut 0 to (drop k l)
unfolding cut
cut_skip [] zero at to h e = ap (λ (n : ℕ). end_at n ∷ []) (let z : at ≡ to = omega arith in z)
cut_skip [] (suc k) at to h e = absurd (omega arith)
cut_skip (b ∷ bs) zero at to h e = ap (λ (n : ℕ). cut 0 n (b ∷ bs)) (let z : at ≡ to = omega arith in z)
cut_skip (b ∷ bs) (suc k) at to h e = cut_skip bs k (suc at) to (omega arith) (omega arith)

-- behind white space, and behind a word
pub cut_white : (b : ℕ) (bs : List ℕ) (at : ℕ) → white b ≡ true → cut 0 at (b ∷ bs) ≡ cut 0 (suc at) bs
unfolding cut
cut_white b bs at h = rw h

pub cut_word : (b : ℕ) (bs : List ℕ) (at to : ℕ) → white b ≡ false → to ≡ at + word_length (b ∷ bs)
    → cut 0 at (b ∷ bs) ≡ word_at at (b ∷ bs) (word_length (b ∷ bs)) ∷ cut 0 to (drop (word_length (b ∷ bs)) (b ∷ bs))
unfolding cut
cut_word b bs at to h e =
    rw h (ap (◌∷◌ (word_at at (b ∷ bs) (word_length (b ∷ bs)))) (go (word_length (b ∷ bs)) (word_fits b bs) e))
  where
    go : (n : ℕ) → Fits n (b ∷ bs) → to ≡ at + n → cut (n - 1) (suc at) bs ≡ cut 0 to (drop n (b ∷ bs))
    go zero f e = absurd (let z = f.some_byte in omega arith)
    go (suc n) f e =
        let i : suc n ≤ suc (length bs) = f.inside in
        ap (λ (m : ℕ). cut m (suc at) bs) (let z : suc n - 1 ≡ n = omega arith in z) ∙ cut_skip bs n (suc at) to (omega arith) (omega arith)

-- the words rise: each begins at or behind the place where the last one ended, only the end is empty, and none reaches beyond the text
unfoldable pub Rising : ℕ → ℕ → List Word → Type 0
Rising at size [] = Unit {0}
Rising at size (w ∷ ws) = (at ≤ w.start) × (w.start ≤ w.end) × (w.end ≤ size) × Rising w.end size ws

pub words_rise : (l : List ℕ) (k at from size : ℕ) → from ≤ at + k → k ≤ length l → size ≡ at + length l → Rising from size (cut k at l)
unfolding Rising cut end_at word_at
words_rise [] k at from size h j e = ((omega arith), (omega arith), (omega arith), tt)
words_rise (b ∷ bs) (suc k) at from size h j e = words_rise bs k (suc at) from size (omega arith) (omega arith) (omega arith)
words_rise (b ∷ bs) zero at from size h j e =
    go (white b) (words_rise bs zero (suc at) from size (omega arith) (omega arith) (omega arith)) (word_length (b ∷ bs)) (word_fits b bs)
    (λ n. words_rise bs n (suc at))
  where
    go : (t : Bool) → Rising from size (cut 0 (suc at) bs) → (n : ℕ) → Fits n (b ∷ bs)
        → ((n from size : ℕ) → from ≤ suc at + n → n ≤ length bs → size ≡ suc at + length bs → Rising from size (cut n (suc at) bs))
        → Rising from size (choose t (λ _. cut 0 (suc at) bs) (λ _. word_at at (b ∷ bs) n ∷ cut (n - 1) (suc at) bs))
    go true r n f k = r
    go false r n f k =
        let a : 1 ≤ n = f.some_byte in
        let c : n ≤ suc (length bs) = f.inside in (
          (let z : from ≤ at = omega arith in z),
          (let z : at ≤ at + n = omega arith in z),
          (let z : at + n ≤ size = omega arith in z),
          k (n - 1) (at + n) size (omega arith) (omega arith) (omega arith),
        )
