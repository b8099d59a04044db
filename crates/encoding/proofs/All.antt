-- What holds of each entry of a list, and of each with its number; and lists that are gathered or placed.
-- Assumes nothing.
use Prim.Native.Nat.{ℕ, zero, suc, ◌+◌, ◌-◌, ◌<◌, ◌≤◌}
use native.Mathlib.Omega.{arith}
use mathlib.Core.Path.{◌≡◌, refl, sym, ◌∙◌, ap}
use mathlib.Core.List.{List, [], ◌∷◌, ◌++◌, map, append_assoc}
use mathlib.Core.Logic.{◌⊎◌, inl, inr}
use lib.ListN.{length, get_or, length-append}
use Rattle.model.specs.Words.{listed, total}
use Rattle.model.proofs.Words.{lt_or_le}
use Rattle.encoding.specs.Records.{Eight}
use Rattle.encoding.specs.Encoding.{gathered, placed}
use Rattle.encoding.specs.Numbers.{Every}

-- P holds of each entry with its number, counted from n on
abbrev pub All : {A : Type 0} → (ℕ → A → Type 0) → ℕ → List A → Type 0
All P n [] = Unit {0}
All P n (x ∷ xs) = P n x × All P (suc n) xs

module _ {A : Type 0} where
  pub all_map : (P Q : ℕ → A → Type 0) → ((j : ℕ) (x : A) → P j x → Q j x) → (xs : List A) (n : ℕ) → All P n xs → All Q n xs
  all_map P Q f [] n a = tt
  all_map P Q f (x ∷ xs) n a = (f n x a.0, all_map P Q f xs (suc n) a.1)

  pub all_listed : (f : ℕ → A) (xs : List A) (n : ℕ) → All (λ j x. f j ≡ x) n xs → listed n (length xs) f ≡ xs
  unfolding listed
  all_listed f [] n a = refl
  all_listed f (x ∷ xs) n a = rw (a.0, all_listed f xs (suc n) a.1)

  pub all_at : (P : ℕ → A → Type 0) (d : A) (xs : List A) (n : ℕ) → All P n xs → (i a : ℕ) → i < length xs → a ≡ n + i → P a (get_or xs i d)
  all_at P d [] n p i a l e = absurd (omega arith)
  all_at P d (x ∷ xs) n p zero a l e = let z : a ≡ n = omega arith in rw z p.0
  all_at P d (x ∷ xs) n p (suc i) a l e = all_at P d xs (suc n) p.1 i a (omega arith) (omega arith)

-- what holds of clause i of state q for every i and q holds of all clauses
pub all_total : (Q : ℕ → Type 0) (count : ℕ → ℕ) (n : ℕ) → ((q : ℕ) → q < n → (i : ℕ) → i < count q → Q (total q count + i)) → (w : ℕ) → w < total n count → Q w
unfolding total
all_total Q count zero h w l = absurd (omega arith)
all_total Q count (suc n) h w l = go (lt_or_le w (total n count)) (all_total Q count n (λ q m. h q (omega arith)) w)
  where
    go : (w < total n count) ⊎ (total n count ≤ w) → (w < total n count → Q w) → Q w
    go (inl m) r = r m
    go (inr m) r = let e : total n count + (w - total n count) ≡ w = omega arith in rw e at (h n (omega arith) (w - total n count) (omega arith))

-- one record for each entry
pub length_singles : {A B : Type 0} (guards : A → List Eight) (f : A → ℕ → B) (xs : List A) (n : ℕ) → length (placed guards (λ x m. f x m ∷ []) xs n) ≡ length xs
unfolding placed
length_singles guards f [] n = refl
length_singles guards f (x ∷ xs) n = ap suc (length_singles guards f xs (n + length (guards x)))

-- two lists gathered or placed, the second behind the first
pub gathered_append : {A B : Type 0} (f : A → List B) (xs ys : List A) → gathered f (xs ++ ys) ≡ gathered f xs ++ gathered f ys
unfolding gathered
gathered_append {A} {B} f [] ys = refl
gathered_append {A} {B} f (x ∷ xs) ys = ap (λ (l : List B). f x ++ l) (gathered_append f xs ys) ∙ sym (append_assoc (f x) (gathered f xs) (gathered f ys))

pub placed_append : {A B : Type 0} (guards : A → List Eight) (f : A → ℕ → List B) (xs ys : List A) (n m : ℕ) → m ≡ n + length (gathered guards xs)
    → placed guards f (xs ++ ys) n ≡ placed guards f xs n ++ placed guards f ys m
unfolding placed gathered
placed_append {A} {B} guards f [] ys n m e = ap (λ (k : ℕ). placed guards f ys k) (let z : n ≡ m = omega arith in z)
placed_append {A} {B} guards f (x ∷ xs) ys n m e =
    let k : ℕ = n + length (guards x) in
    let h = length-append (guards x) (gathered guards xs) in
    ap (λ (l : List B). f x n ++ l) (placed_append guards f xs ys k m (omega arith)) ∙ sym (append_assoc (f x n) (placed guards f xs k) (placed guards f ys m))

-- what holds of every entry of two lists, of one of them, of each part, of both
module _ {A : Type 0} (P : A → Type 0) where
  pub every_append : (xs ys : List A) → Every P xs → Every P ys → Every P (xs ++ ys)
  every_append [] ys a b = b
  every_append (x ∷ xs) ys a b = (a.0, every_append xs ys a.1 b)

  pub every_first : (xs ys : List A) → Every P (xs ++ ys) → Every P xs
  every_first [] ys a = tt
  every_first (x ∷ xs) ys a = (a.0, every_first xs ys a.1)

  pub every_second : (xs ys : List A) → Every P (xs ++ ys) → Every P ys
  every_second [] ys a = a
  every_second (x ∷ xs) ys a = every_second xs ys a.1

  pub every_turned : (Q : A → Type 0) → ((x : A) → P x → Q x) → (xs : List A) → Every P xs → Every Q xs
  every_turned Q f [] a = tt
  every_turned Q f (x ∷ xs) a = (f x a.0, every_turned Q f xs a.1)

  pub every_both : (Q : A → Type 0) (xs : List A) → Every P xs → Every Q xs → Every (λ x. P x × Q x) xs
  every_both Q [] a b = tt
  every_both Q (x ∷ xs) a b = ((a.0, b.0), every_both Q xs a.1 b.1)

  pub every_mapped : {B : Type 0} (f : B → A) (xs : List B) → Every P (map f xs) → Every (λ x. P (f x)) xs
  every_mapped f [] a = tt
  every_mapped f (x ∷ xs) a = (a.0, every_mapped f xs a.1)

  pub every_map : {B : Type 0} (f : B → A) (xs : List B) → Every (λ x. P (f x)) xs → Every P (map f xs)
  every_map f [] a = tt
  every_map f (x ∷ xs) a = (a.0, every_map f xs a.1)

  pub every_gathered : {B : Type 0} (Q : B → Type 0) (f : B → List A) → ((x : B) → Q x → Every P (f x)) → (xs : List B) → Every Q xs → Every P (gathered f xs)
  unfolding gathered
  every_gathered Q f h [] a = tt
  every_gathered Q f h (x ∷ xs) a = every_append (f x) (gathered f xs) (h x a.0) (every_gathered Q f h xs a.1)

  pub every_parts : {B : Type 0} (f : B → List A) (xs : List B) → Every P (gathered f xs) → Every (λ x. Every P (f x)) xs
  unfolding gathered
  every_parts f [] a = tt
  every_parts f (x ∷ xs) a = (every_first (f x) (gathered f xs) a, every_parts f xs (every_second (f x) (gathered f xs) a))
