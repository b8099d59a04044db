-- Room for one more record: byte by byte, and what the records then are.
-- Assumes nothing.
use Prim.Native.Nat.{ℕ, zero, suc, ◌+◌, ◌-◌, ◌*◌, ◌≤◌, ◌<◌, ◌/◌, ◌%◌, ◌^◌}
use native.Mathlib.Omega.{arith}
use mathlib.Core.Path.{◌≡◌, refl, sym, ◌∙◌, ap}
use mathlib.Core.List.{List, [], ◌∷◌, ◌++◌, append_assoc}
use lib.ListN.{length, take, drop, length-append, length-take, length-drop}
use lib.Seq.{sets, sets-eq, take-take, take-nil, take-append-le, take_at, drop_at, length-take-le}
use Rattle.std.specs.List.{copy_within}
use Rattle.std.specs.Int.{to_le_bytes}
use Rattle.std.proofs.Common.{w32}
use Rattle.encoding.specs.Records.{Eight, bytes8, eights}
use Rattle.encoding.proofs.From.{length_eights, drop_eights}
use Rattle.ordering.specs.Ordering.{inserted}
use Rattle.prefixed.specs.Inserting.{opened, with_record}

-- the bytes copied are those of which room is left
pub opened_copied : (from to : ℕ) (b : List ℕ) → from ≤ to → copy_within b from to (from + 8) ≡ opened from to b
unfolding opened
opened_copied from to b h =
    let z : from + 8 + (to - from) ≡ to + 8 = omega arith in
    append_assoc (take (from + 8) b) (take (to - from) (drop from b)) (drop (from + 8 + (to - from)) b)
    ∙ ap (λ (n : ℕ). take (from + 8) b ++ (take (to - from) (drop from b) ++ drop n b)) z

-- the bytes of a name set
pub set_bytes : (n : ℕ) → n < 2 ^ 32 → to_le_bytes w32 n ≡ n % 65536 % 256 ∷ n % 65536 / 256 ∷ n / 65536 % 256 ∷ n / 65536 / 256 ∷ []
set_bytes n h =
    let a : n % 256 ≡ n % 65536 % 256 = omega arith in
    let b : n / 256 % 256 ≡ n % 65536 / 256 = omega arith in
    let c : n / 65536 % 256 ≡ n / 65536 % 256 = omega arith in
    let d : n / 16777216 % 256 ≡ n / 65536 / 256 = omega arith in
    λ j. a j ∷ b j ∷ c j ∷ d j ∷ []

-- the record written there
overwritten : (n : ℕ) (vs b ys : List ℕ) → n + length vs ≤ length b → sets (take (n + length vs) b ++ ys) n vs ≡ take n b ++ (vs ++ ys)
overwritten n vs b ys h =
    let k : ℕ = n + length vs in
    let xs = take k b in
    let f : length xs ≡ k = length-take-le k b h in
    let z : n + length vs ≤ length (xs ++ ys) = omega (arith, length-append xs ys) in
    sets-eq vs (xs ++ ys) n z
    ∙ rw (take-append-le n xs ys (omega arith), take-take n k b (omega arith), drop_at xs ys k f) (append_assoc (take n b) vs ys)

pub recorded : (at count : ℕ) (r : Eight) (b cur last : List ℕ) → at ≤ count → count * 8 + 8 ≤ length b → cur ≡ opened (at * 8) (count * 8) b
    → last ≡ sets cur (at * 8) (bytes8 r []) → last ≡ with_record at count r b
unfolding opened with_record
recorded at count r b cur last l m e f =
    f ∙ ap (λ (x : List ℕ). sets x (at * 8) (bytes8 r [])) e
    ∙ overwritten (at * 8) (bytes8 r []) b (take (count * 8 - at * 8) (drop (at * 8) b) ++ drop (count * 8 + 8) b) (omega arith)

-- the bytes of records
pub eights_append : (xs ys : List Eight) → eights (xs ++ ys) ≡ eights xs ++ eights ys
unfolding eights
eights_append [] ys = refl
eights_append (x ∷ xs) ys = ap (bytes8 x) (eights_append xs ys)

take_eights : (n : ℕ) (rs : List Eight) → take (n * 8) (eights rs) ≡ eights (take n rs)
unfolding eights
take_eights zero rs = refl
take_eights (suc n) [] = take-nil (suc n * 8)
take_eights (suc n) (r ∷ rs) =
    let e : suc n * 8 ≡ suc (suc (suc (suc (suc (suc (suc (suc (n * 8)))))))) = omega arith in
    ap (λ (k : ℕ). take k (bytes8 r (eights rs))) e ∙ ap (bytes8 r) (take_eights n rs)

drop_take : (n k : ℕ) (l : List ℕ) → n ≤ k → drop n (take k l) ≡ take (k - n) (drop n l)
drop_take zero k l h = ap (λ (x : ℕ). take x l) (let f : k ≡ k - 0 = omega arith in f)
drop_take (suc n) zero l h = absurd (omega arith)
drop_take (suc n) (suc k) [] h = sym (take-nil (suc k - suc n))
drop_take (suc n) (suc k) (x ∷ l) h = let e : suc k - suc n ≡ k - n = omega arith in rw e (drop_take n k l (omega arith))

pub inserted_bytes : (at count : ℕ) (r : Eight) (rs : List Eight) (b : List ℕ) → at ≤ count → count ≡ length rs → count * 8 + 8 ≤ length b → take (count * 8) b ≡ eights rs
    → take ((count + 1) * 8) (with_record at count r b) ≡ eights (inserted (count - at) r rs)
unfolding with_record inserted eights
inserted_bytes at count r rs b l n m e =
    let B = bytes8 r [] in
    let X = eights (take at rs) in
    let Y = eights (drop at rs) in
    let D = drop (count * 8 + 8) b in
    let p : take (at * 8) b ≡ X = sym (take-take (at * 8) (count * 8) b (omega arith)) ∙ ap (take (at * 8)) e ∙ take_eights at rs in
    let q : take (count * 8 - at * 8) (drop (at * 8) b) ≡ Y = sym (drop_take (at * 8) (count * 8) b (omega arith)) ∙ ap (drop (at * 8)) e ∙ drop_eights at rs in
    let z : length rs - (count - at) ≡ at = omega arith in
    let g : X ++ (B ++ (Y ++ D)) ≡ X ++ (B ++ Y) ++ D = sym (append_assoc X (B ++ Y) D) in
    let h : length (X ++ (B ++ Y)) ≡ (count + 1) * 8 =
    omega (arith, length-append X (B ++ Y), length-append B Y, length_eights (take at rs), length_eights (drop at rs), length-take at rs, length-drop at rs) in
    rw (z, p, q) (ap (take ((count + 1) * 8)) g ∙ take_at (X ++ (B ++ Y)) D ((count + 1) * 8) h ∙ sym (eights_append (take at rs) (r ∷ drop at rs)))
