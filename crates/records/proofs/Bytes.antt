-- Laws about the numbers in a byte string, about parts of it, and about its records of 8 bytes.
-- Assumes nothing.
use Prim.Native.Nat.{ℕ, zero, suc, ◌+◌, ◌*◌, ◌-◌, ◌/◌, ◌<◌, ◌≤◌, ◌^◌}
use native.Mathlib.Omega.{arith}
use mathlib.Core.Path.{◌≡◌, refl, sym, ap, ◌∙◌}
use mathlib.Core.List.{List, [], ◌∷◌}
use mathlib.Core.Logic.{◌⊎◌, inl, inr}
use lib.ListN.{length, get_or, take, drop, length-take, length-drop, drop_of_length-le, get_or-eq_default}
use lib.Seq.{get_or-take, get_or-drop, take-take, take-nil, take_all, drop-drop}
use Rattle.model.proofs.Words.{lt_or_le}
use Rattle.records.specs.Bytes.{u16, u32, records, records_from}
use Rattle.model.specs.Words.{Bytes}

-- a number of two bytes is below 65,536
pub u16_below : (b : List ℕ) → Bytes b → (at : ℕ) → u16 b at < 65536
u16_below b h at = omega (arith, h at, h (at + 1))

-- a number of four bytes is below 2 to the 32
pub u32_below : (b : List ℕ) → Bytes b → (at : ℕ) → u32 b at < 2 ^ 32
u32_below b h at = omega (arith, h at, h (at + 1), h (at + 2), h (at + 3))

-- the first n of a byte string are a byte string
pub take_bytes : (n : ℕ) (b : List ℕ) → Bytes b → Bytes (take n b)
take_bytes n b h i = go (lt_or_le i n)
  where
    go : (i < n) ⊎ (n ≤ i) → get_or (take n b) i 0 < 256
    go (inl l) = rw (get_or-take n b i 0 l) (h i)
    go (inr l) =
        let s : length (take n b) ≤ i = omega (arith, length-take n b) in
        rw (get_or-eq_default (take n b) 0 s) (let z : 0 < 256 = omega arith in z)

-- what is left of a byte string behind the first n is a byte string
pub drop_bytes : (n : ℕ) (b : List ℕ) → Bytes b → Bytes (drop n b)
drop_bytes n b h i = rw (get_or-drop n b i 0) (h (n + i))

-- a number that lies inside the first n bytes is that of the whole
pub u16_take : (n : ℕ) (b : List ℕ) (at : ℕ) → at + 2 ≤ n → u16 (take n b) at ≡ u16 b at
u16_take n b at l = rw (get_or-take n b at 0 (omega arith), get_or-take n b (at + 1) 0 (omega arith))

-- the same of four bytes
pub u32_take : (n : ℕ) (b : List ℕ) (at : ℕ) → at + 4 ≤ n → u32 (take n b) at ≡ u32 b at
u32_take n b at l =
    rw (get_or-take n b at 0 (omega arith), get_or-take n b (at + 1) 0 (omega arith))
    (rw (get_or-take n b (at + 2) 0 (omega arith), get_or-take n b (at + 3) 0 (omega arith)))

-- n records are n entries
pub length_records : (n : ℕ) (b : List ℕ) → length (records n b) ≡ n
unfolding records
length_records zero b = refl
length_records (suc n) b = ap suc (length_records n (drop 8 b))

-- the first k of n records
pub take_records : (k n : ℕ) (b : List ℕ) → k ≤ n → take k (records n b) ≡ records k b
unfolding records
take_records zero n b l = refl
take_records (suc k) zero b l = absurd (omega arith)
take_records (suc k) (suc n) b l = ap (λ (x : List (List ℕ)). take 8 b ∷ x) (take_records k n (drop 8 b) (omega arith))

-- the records behind the first k of n
pub drop_records : (k m n : ℕ) (b : List ℕ) → n ≡ k + m → drop k (records n b) ≡ records m (drop (k * 8) b)
unfolding records
drop_records zero m n b e = ap (λ (x : ℕ). records x b) (let f : n ≡ m = omega arith in f)
drop_records (suc k) m zero b e = absurd (omega arith)
drop_records (suc k) m (suc n) b e =
    let f : 8 + k * 8 ≡ suc k * 8 = omega arith in
    drop_records k m n (drop 8 b) (omega arith) ∙ ap (records m) (drop-drop (k * 8) 8 b ∙ ap (λ (x : ℕ). drop x b) f)

-- what is left of the first k behind the first n
drop_take {ℓ} : {A : Type ℓ} (n m k : ℕ) (l : List A) → k ≡ n + m → drop n (take k l) ≡ take m (drop n l)
drop_take zero m k l e = ap (λ (x : ℕ). take x l) (let f : k ≡ m = omega arith in f)
drop_take (suc n) m zero l e = absurd (omega arith)
drop_take (suc n) m (suc k) [] e = sym (take-nil m)
drop_take (suc n) m (suc k) (x ∷ l) e = drop_take n m k l (omega arith)

-- the records of the first m bytes
records_take : (k m : ℕ) (b : List ℕ) → k * 8 ≤ m → records k (take m b) ≡ records k b
unfolding records
records_take zero m b l = refl
records_take (suc k) m b l =
    let h : 8 ≤ m = omega arith in
    rw (take-take 8 m b h, drop_take 8 (m - 8) m b (omega arith), records_take k (m - 8) (drop 8 b) (omega arith))

-- all records of a byte string
abbrev pub whole : List ℕ → List (List ℕ)
whole b = records (length b / 8) b

-- those of a string that is cut between two records
pub take_whole : (k : ℕ) (b : List ℕ) → whole (take (k * 8) b) ≡ take k (whole b)
take_whole k b = go (lt_or_le (length b / 8) k)
  where
    go : (length b / 8 < k) ⊎ (k ≤ length b / 8) → whole (take (k * 8) b) ≡ take k (whole b)
    go (inl l) = rw (take_all (k * 8) b (omega arith), take_all k (whole b) (omega (arith, length_records (length b / 8) b)))
    go (inr l) =
        let e : length (take (k * 8) b) / 8 ≡ k = omega (arith, length-take (k * 8) b) in
        rw (e, records_take k (k * 8) b (omega arith), take_records k (length b / 8) b l)

pub drop_whole : (k : ℕ) (b : List ℕ) → whole (drop (k * 8) b) ≡ drop k (whole b)
unfolding records
drop_whole k b = go (lt_or_le (length b / 8) k)
  where
    go : (length b / 8 < k) ⊎ (k ≤ length b / 8) → whole (drop (k * 8) b) ≡ drop k (whole b)
    go (inl l) =
        let h : length (whole b) ≤ k = omega (arith, length_records (length b / 8) b) in
        let f : length b ≤ k * 8 = omega arith in
        rw (drop_of_length-le b f, drop_of_length-le (whole b) h)
    go (inr l) =
        let e : length (drop (k * 8) b) / 8 ≡ length b / 8 - k = omega (arith, length-drop (k * 8) b) in
        rw (e, drop_records k (length b / 8 - k) (length b / 8) b (omega arith))

-- so those of n records from record i on are n records from the i-th on
pub from_whole : (i n : ℕ) (b : List ℕ) → whole (records_from i n b) ≡ take n (drop i (whole b))
from_whole i n b = take_whole n (drop (i * 8) b) ∙ ap (take n) (drop_whole i b)

-- the first record, and those behind it
pub whole_front : (b : List ℕ) → 8 ≤ length b → whole b ≡ take 8 b ∷ drop 1 (whole b)
unfolding records
whole_front b l =
    let e : length b / 8 ≡ suc (length b / 8 - 1) = omega arith in
    let f : records (length b / 8) b ≡ take 8 b ∷ records (length b / 8 - 1) (drop 8 b) = ap (λ (n : ℕ). records n b) e in
    f ∙ ap (λ (x : List (List ℕ)). take 8 b ∷ x) (sym (ap (drop 1) f))
