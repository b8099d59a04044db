-- Laws about tallies: they are joined in any order, and summed in parts.
-- Assumes nothing.
use Prim.Native.Nat.{ℕ, zero, suc, ◌+◌, ◌*◌, ◌<◌, ◌≤◌}
use native.Mathlib.Omega.{arith}
use native.Mathlib.Numerals.{add-one}
use mathlib.Core.Path.{◌≡◌, refl, sym, ◌∙◌, ap}
use mathlib.Core.Bool.{Bool, ◌&&◌, and-true, and_assoc, and_comm}
use mathlib.Core.List.{List, ◌++◌}
use lib.ListN.{length, length-append}
use Rattle.model.specs.Words.{every, listed, each, total}
use Rattle.encoding.specs.Encoding.{gathered}
use Rattle.missing.specs.Tallies.{nothing, joined, sum_of}
use Rattle.missing.specs.declared.Tally.{Tally}

-- tallies are the same where both of their parts are
pub same_tally : (a b : Tally) → a.named ≡ b.named → a.count ≡ b.count → a ≡ b
same_tally a b e f = λ i. record { named = e i; count = f i }

-- nothing adds nothing
pub joined_nothing : (a : Tally) → joined a nothing ≡ a
joined_nothing a = same_tally (joined a nothing) a (and-true a.named) (omega arith)

pub nothing_joined : (a : Tally) → joined nothing a ≡ a
nothing_joined a = same_tally (joined nothing a) a refl (omega arith)

-- three are joined from either end
pub joined_assoc : (a b c : Tally) → joined (joined a b) c ≡ joined a (joined b c)
joined_assoc a b c = same_tally (joined (joined a b) c) (joined a (joined b c)) (and_assoc a.named b.named c.named) (omega arith)

-- the inner two of four are exchanged
and_inner : (a b c d : Bool) → (a && b && (c && d)) ≡ (a && c && (b && d))
and_inner a b c d =
    and_assoc a b (c && d) ∙ ap (λ (x : Bool). a && x) (sym (and_assoc b c d) ∙ ap (λ (x : Bool). x && d) (and_comm b c) ∙ and_assoc c b d) ∙ sym (and_assoc a c (b && d))

pub joined_inner : (a b c d : Tally) → joined (joined a b) (joined c d) ≡ joined (joined a c) (joined b d)
joined_inner a b c d =
    same_tally (joined (joined a b) (joined c d)) (joined (joined a c) (joined b d)) (and_inner a.named b.named c.named d.named) (omega arith)

-- sums of the same tallies are the same
pub sum_same : (n : ℕ) (f g : ℕ → Tally) → ((i : ℕ) → i < n → f i ≡ g i) → sum_of n f ≡ sum_of n g
unfolding sum_of
sum_same zero f g h = refl
sum_same (suc n) f g h = rw (sum_same n f g (λ i l. h i (omega arith)), h n (omega arith))

-- the first of a sum apart
pub sum_front : (n : ℕ) (f : ℕ → Tally) → sum_of (suc n) f ≡ joined (f 0) (sum_of n (λ j. f (suc j)))
unfolding sum_of
sum_front zero f = nothing_joined (f 0) ∙ sym (joined_nothing (f 0))
sum_front (suc n) f = ap (λ (t : Tally). joined t (f (suc n))) (sum_front n f) ∙ joined_assoc (f 0) (sum_of n (λ j. f (suc j))) (f (suc n))

-- a sum in two parts
pub sum_plus : (f : ℕ → Tally) (a b k : ℕ) → k ≡ a + b → sum_of k f ≡ joined (sum_of a f) (sum_of b (λ j. f (a + j)))
unfolding sum_of
sum_plus f a zero k e = ap (λ (n : ℕ). sum_of n f) (let z : k ≡ a = omega arith in z) ∙ sym (joined_nothing (sum_of a f))
sum_plus f a (suc b) zero e = absurd (omega arith)
sum_plus f a (suc b) (suc k) e =
    let z : k ≡ a + b = omega arith in
    ap (λ (t : Tally). joined t (f k)) (sum_plus f a b k z)
    ∙ joined_assoc (sum_of a f) (sum_of b (λ j. f (a + j))) (f k)
    ∙ ap (λ (n : ℕ). joined (sum_of a f) (joined (sum_of b (λ j. f (a + j))) (f n))) z

-- a sum of joined tallies
pub sum_joined : (n : ℕ) (f g : ℕ → Tally) → sum_of n (λ i. joined (f i) (g i)) ≡ joined (sum_of n f) (sum_of n g)
unfolding sum_of
sum_joined zero f g = refl
sum_joined (suc n) f g = ap (λ (t : Tally). joined t (joined (f n) (g n))) (sum_joined n f g) ∙ joined_inner (sum_of n f) (sum_of n g) (f n) (g n)

-- those that n runs have, one run behind the other, are those of all that are listed
pub sum_runs : (f : ℕ → Tally) (count : ℕ → ℕ) (n : ℕ) → sum_of n (λ q. sum_of (count q) (λ j. f (total q count + j))) ≡ sum_of (total n count) f
unfolding sum_of total
sum_runs f count zero = refl
sum_runs f count (suc n) =
    ap (λ (t : Tally). joined t (sum_of (count n) (λ j. f (total n count + j)))) (sum_runs f count n)
    ∙ sym (sum_plus f (total n count) (count n) (total n count + count n) refl)

-- tests alone count nothing
pub sum_tests : (n : ℕ) (p : ℕ → Bool) → sum_of n (λ i. record { named = p i; count = 0 }) ≡ record { named = each n p; count = 0 }
unfolding sum_of each
sum_tests zero p = refl
sum_tests (suc n) p = rw (sum_tests n p)

-- tests that count one each
pub sum_ones : (n : ℕ) (p : ℕ → Bool) → sum_of n (λ i. record { named = p i; count = 1 }) ≡ record { named = each n p; count = n }
unfolding sum_of each
sum_ones zero p = refl
sum_ones (suc n) p =
    ap (λ (t : Tally). joined t (record { named = p n; count = 1 })) (sum_ones n p)
    ∙ same_tally (record { named = each n p && p n; count = n + 1 }) (record { named = each n p && p n; count = suc n }) refl (omega arith)

-- tallies of entries that are listed
pub sum_listed : {A B : Type 0} (p : A → Bool) (h : A → List B) (g : ℕ → A) (i k : ℕ) (f : ℕ → Tally)
    → ((j a : ℕ) → a ≡ i + j → j < k → record { named = p (g a); count = length (h (g a)) } ≡ f j)
    → record { named = every p (listed i k g); count = length (gathered h (listed i k g)) } ≡ sum_of k f
unfolding every listed gathered sum_of
sum_listed p h g i zero f s = refl
sum_listed {A} {B} p h g i (suc k) f s =
    let rest : Tally = record { named = every p (listed (suc i) k g); count = length (gathered h (listed (suc i) k g)) } in
    let first : Tally = record { named = p (g i); count = length (h (g i)) } in
    same_tally (record { named = p (g i) && every p (listed (suc i) k g); count = length (h (g i) ++ gathered h (listed (suc i) k g)) }) (joined first rest) refl (length-append (h (g i)) (gathered h (listed (suc i) k g)))
    ∙ ap (λ (t : Tally). joined t rest) (s 0 i (omega arith) (omega arith))
    ∙ ap (joined (f 0)) (sum_listed p h g (suc i) k (λ j. f (suc j)) (λ j a e l. s (suc j) a (omega arith) (omega arith)))
    ∙ sym (sum_front k f)

-- tallies of l numbers from i on
abbrev pub span : (ℕ → Tally) → ℕ → ℕ → Tally
span f i l = sum_of l (λ m. f (i + m))

module _ (f : ℕ → Tally) where
  -- one more in front
  pub span_front : (i a l : ℕ) → a ≡ suc i → joined (f i) (span f a l) ≡ span f i (suc l)
  span_front i a l e =
      let z : i ≡ i + 0 = omega arith in
      ap (λ (n : ℕ). joined (f n) (span f a l)) z
      ∙ ap (joined (f (i + 0))) (sum_same l (λ m. f (a + m)) (λ m. f (i + suc m)) (λ m _. ap f (let y : a + m ≡ i + suc m = omega arith in y)))
      ∙ sym (sum_front l (λ m. f (i + m)))

  -- those from i on, and those behind them
  pub span_plus : (i j l k : ℕ) → j ≡ i + l → joined (span f i l) (span f j k) ≡ span f i (l + k)
  span_plus i j l k e =
      ap (joined (span f i l)) (sum_same k (λ m. f (j + m)) (λ m. f (i + (l + m))) (λ m _. ap f (let y : j + m ≡ i + (l + m) = omega arith in y)))
      ∙ sym (sum_plus (λ m. f (i + m)) l k (l + k) refl)

-- the loops that sum: the tallies of the first i of n are summed, none of which counts many records
pub record Summed (f : ℕ → Tally) (n i : ℕ) (all : Tally) : Type 0 where
  pub inside : i ≤ n
  pub is : all ≡ sum_of i f
  pub small : all.count ≤ i * 1024

-- before the first turn, after one more, and after the last
pub summed_none : (f : ℕ → Tally) (n : ℕ) → Summed f n 0 nothing
unfolding sum_of
summed_none f n = record { inside = omega arith; is = refl; small = omega arith }

module _ (f : ℕ → Tally) (n i : ℕ) (all : Tally) (s : Summed f n i all) where
  pub summed_on : i < n → (one next : Tally) → one ≡ f i → one.count ≤ 1024 → next ≡ joined all one → Summed f n (i + 1) next
  unfolding sum_of
  summed_on l one next e h j =
      let m : next.count ≡ all.count + one.count = ap (λ (t : Tally). t.count) j in
      let k = s.small in
      record { inside = omega arith; is = rw (add-one i) (j ∙ rw (s.is, e)); small = omega arith }

  pub summed_all : n ≤ i → (all ≡ sum_of n f) × (all.count ≤ n * 1024)
  summed_all l =
      let e : i ≡ n = (let m = s.inside in omega arith) in
      (s.is ∙ ap (λ (k : ℕ). sum_of k f) e, (let k = s.small in omega arith))
