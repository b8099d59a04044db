-- From a place on, a list is another list: how every reader below finds its records. And the bytes of records, read back.
-- Assumes nothing.
use Prim.Native.Nat.{ℕ, zero, suc, ◌+◌, ◌*◌, ◌/◌, ◌%◌, ◌<◌}
use native.Mathlib.Omega.{arith}
use mathlib.Core.Path.{◌≡◌, refl, sym, ◌∙◌, ap, subst}
use native.Mathlib.Numerals.{add-one}
use mathlib.Core.List.{List, [], ◌∷◌, ◌++◌, map, append_assoc}
use lib.ListN.{length, get_or, take, drop, length-append}
use lib.Seq.{drop-drop, drop-nil, drop-append_seam, take-append_seam, get_or-drop}
use Rattle.records.specs.Bytes.{byte, u16, u32, record_at, records}
use Rattle.encoding.specs.Records.{Four, Eight, bytes4, bytes8, fours, eights}

pub record From {A : Type 0} (rs : List A) (n : ℕ) (xs : List A) : Type 0 where
  pub same : drop n rs ≡ xs
  pub ends : n + length xs ≡ length rs

module _ {A : Type 0} (rs : List A) where
  pub whole : From rs 0 rs
  whole = record { same = refl; ends = omega arith }

  module _ (n : ℕ) where
    -- behind the first part, the second
    pub next : (xs ys : List A) → From rs n (xs ++ ys) → From rs (n + length xs) ys
    next xs ys f =
        record {
          same = sym (drop-drop (length xs) n rs) ∙ ap (drop (length xs)) f.same ∙ drop-append_seam xs ys;
          ends = omega (arith, f.ends, length-append xs ys);
        }

    pub next_one : (x : A) (xs : List A) → From rs n (x ∷ xs) → From rs (suc n) xs
    next_one x xs f = subst (λ (k : ℕ). From rs k xs) (add-one n) (next (x ∷ []) xs f)

    pub regroup : (xs ys zs : List A) → From rs n (xs ++ ys ++ zs) → From rs n (xs ++ (ys ++ zs))
    regroup xs ys zs f = rw (append_assoc xs ys zs) at f

    pub inside : (x : A) (xs : List A) → From rs n (x ∷ xs) → n < length rs
    inside x xs f = omega (arith, f.ends)

    pub taken : (xs ys : List A) → From rs n (xs ++ ys) → take (length xs) (drop n rs) ≡ xs
    taken xs ys f = ap (take (length xs)) f.same ∙ take-append_seam xs ys

-- numbers come back from their bytes
pub again16 : (n : ℕ) → n % 256 + 256 * (n / 256) ≡ n
again16 n = omega arith

pub again32 : (n : ℕ) → n % 65536 % 256 + 256 * (n % 65536 / 256) + 65536 * (n / 65536 % 256) + 16777216 * (n / 65536 / 256) ≡ n
again32 n = omega arith

-- records of 8 bytes
pub length_eights : (rs : List Eight) → length (eights rs) ≡ length rs * 8
unfolding eights
length_eights [] = refl
length_eights (r ∷ rs) = let e = length_eights rs in omega arith

pub count_eights : (rs : List Eight) → length (eights rs) / 8 ≡ length rs
count_eights rs = omega (arith, length_eights rs)

pub drop_eights : (n : ℕ) (rs : List Eight) → drop (n * 8) (eights rs) ≡ eights (drop n rs)
unfolding eights
drop_eights zero rs = refl
drop_eights (suc n) [] = drop-nil (suc n * 8)
drop_eights (suc n) (r ∷ rs) =
    let e : suc n * 8 ≡ 8 + n * 8 = omega arith in
    ap (λ (k : ℕ). drop k (bytes8 r (eights rs))) e ∙ sym (drop-drop (n * 8) 8 (bytes8 r (eights rs))) ∙ drop_eights n rs

pub record_eights : (rs : List Eight) (n : ℕ) (r : Eight) (xs : List Eight) → From rs n (r ∷ xs) → record_at (eights rs) n ≡ bytes8 r []
unfolding record_at eights
record_eights rs n r xs f = ap (λ (x : List ℕ). take 8 x) (drop_eights n rs ∙ ap eights f.same)

pub records_eights : (rs : List Eight) → records (length rs) (eights rs) ≡ map (λ r. bytes8 r []) rs
unfolding records eights
records_eights [] = refl
records_eights (r ∷ rs) = ap (λ (x : List (List ℕ)). bytes8 r [] ∷ x) (records_eights rs)

-- records of 4 bytes
pub length_fours : (rs : List Four) → length (fours rs) ≡ length rs * 4
unfolding fours
length_fours [] = refl
length_fours (r ∷ rs) = let e = length_fours rs in omega arith

pub count_fours : (rs : List Four) → length (fours rs) / 4 ≡ length rs
count_fours rs = omega (arith, length_fours rs)

pub drop_fours : (n : ℕ) (rs : List Four) → drop (n * 4) (fours rs) ≡ fours (drop n rs)
unfolding fours
drop_fours zero rs = refl
drop_fours (suc n) [] = drop-nil (suc n * 4)
drop_fours (suc n) (r ∷ rs) =
    let e : suc n * 4 ≡ 4 + n * 4 = omega arith in
    ap (λ (k : ℕ). drop k (bytes4 r (fours rs))) e ∙ sym (drop-drop (n * 4) 4 (bytes4 r (fours rs))) ∙ drop_fours n rs

module _ (rs : List Four) (n : ℕ) (r : Four) (xs : List Four) (f : From rs n (r ∷ xs)) where
  -- what stands in it, byte j of it being byte a of all
  pub byte_fours : (j a : ℕ) → a ≡ n * 4 + j → byte (fours rs) a ≡ byte (bytes4 r (fours xs)) j
  unfolding fours
  byte_fours j a e =
      ap (λ (k : ℕ). get_or (fours rs) k 0) e ∙ sym (get_or-drop (n * 4) (fours rs) j 0) ∙ ap (λ (x : List ℕ). get_or x j 0) (drop_fours n rs ∙ ap fours f.same)

  pub u16_fours : (j a : ℕ) → a ≡ n * 4 + j → u16 (fours rs) a ≡ u16 (bytes4 r (fours xs)) j
  u16_fours j a e = rw (byte_fours j a e, byte_fours (j + 1) (a + 1) (omega arith))

  pub u32_fours : (j a : ℕ) → a ≡ n * 4 + j → u32 (fours rs) a ≡ u32 (bytes4 r (fours xs)) j
  u32_fours j a e =
      rw (byte_fours j a e, byte_fours (j + 1) (a + 1) (omega arith))
      (rw (byte_fours (j + 2) (a + 2) (omega arith), byte_fours (j + 3) (a + 3) (omega arith)))
