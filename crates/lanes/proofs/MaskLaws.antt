-- Laws about specs/Masks.antt: an atom is true in a configuration as its mask meets it, and the lanes of a block go by the low and the high
-- bits of the mask.
-- Assumes nothing.
use Prim.Native.Nat.{ℕ, zero, suc, ◌+◌, ◌-◌, ◌*◌, ◌/◌, ◌%◌, ◌^◌, ◌<◌, ◌≤◌, min}
use native.Mathlib.Omega.{arith}
use native.Mathlib.Nat.{zero-add, lt_of_lt_of_le}
use native.Mathlib.Numerals.{add-one}
use mathlib.Core.Path.{◌≡◌, refl, sym, ap, ◌∙◌, fun_ext, subst}
use mathlib.Core.Bool
use mathlib.Core.Bool.{Bool, true, false, ◌&&◌, ◌||◌, not}
use mathlib.Core.List.{List, [], ◌∷◌}
use lib.Dec.{eqb, eqb-suc-zero}
use lib.ListN.{get_or}
use lib.Bits.{bit_and, bit_or, and_step, and_block, and_zero_l, and_zero_r, and_comm}
use lib.Pow.{pow_mono}
use borrow.Author.Tests.{eq-eqb, ne_eqb}
use Rattle.model.specs.Words.{has, choose, kept, every, some_in, some_below, listed}
use Rattle.model.specs.Tree.{Child, Pattern, everyone, of_class, Kind, any_in, any_not_in, all_in, all_not_in, Guard, atom, both, either, opposite as not_guard}
use Rattle.model.specs.Guards.{concerns, any_of, all_of, named_in, atom_holds, holds}
use Rattle.model.proofs.Masks.{shifted, some_met}
use Rattle.configurations.specs.Configurations.{chosen, bit, marked}
use Rattle.configurations.specs.Cells.{cells_from}
use Rattle.lanes.specs.Lanes.{Lanes, all_lanes, opposite, in_block}
use Rattle.lanes.specs.Masks.{child, meets, block_word, agrees, wanted, turned, atom_mask, true_in}
use Rattle.lanes.proofs.LaneLaws.{lanes_and, lanes_not, lanes_or, lanes_as, lanes_all, lanes_none}

zero_sum : (a b : ℕ) → not (eqb (a + b) 0) ≡ (not (eqb a 0) || not (eqb b 0))
zero_sum zero b = ap (λ (x : ℕ). not (eqb x 0)) (zero-add b)
zero_sum (suc a) b = rw (eqb-suc-zero a) (ap not (ne_eqb (suc a + b) 0 (λ e. omega arith)))

zero_twice : (a : ℕ) → eqb (a * 2) 0 ≡ eqb a 0
zero_twice zero = refl
zero_twice (suc a) = rw (eqb-suc-zero a) (ne_eqb (suc a * 2) 0 (λ e. omega arith))

bit_met : (b : Bool) (x : ℕ) → x < 2 → not (eqb (min (bit b) x) 0) ≡ (eqb x 1 && b)
bit_met true zero l = refl
bit_met true (suc zero) l = refl
bit_met true (suc (suc x)) l = absurd (omega arith)
bit_met false zero l = refl
bit_met false (suc zero) l = refl
bit_met false (suc (suc x)) l = absurd (omega arith)

-- one cell more
meets_more : (b : Bool) (m k : ℕ) → meets (bit b + 2 * m) k ≡ ((eqb (k % 2) 1 && b) || meets m (k / 2))
meets_more b m k =
    let l : bit b < 2 = low b in
    let h : (bit b + 2 * m) / 2 ≡ m = omega arith in
    let o : (bit b + 2 * m) % 2 ≡ bit b = omega arith in
    let e : bit_and (bit b + 2 * m) k ≡ min (bit b) (k % 2) + bit_and m (k / 2) * 2 = and_step (bit b + 2 * m) k ∙ rw (h, o) (omega arith) in
    rw (e, zero_sum (min (bit b) (k % 2)) (bit_and m (k / 2) * 2), bit_met b (k % 2) (omega arith), zero_twice (bit_and m (k / 2)))
  where
    low : (b : Bool) → bit b < 2
    low true = omega arith
    low false = omega arith

-- some chosen cell passes the test: the configuration meets the mask of those that do
pub some_meets : (f : Child → Bool) (xs : List Child) (k : ℕ) → some_in f (chosen xs k) ≡ meets (marked f xs) k
unfolding some_in chosen marked
some_meets f [] k = sym (ap (λ (x : ℕ). not (eqb x 0)) (and_zero_l k))
some_meets f (x ∷ xs) k = go (eqb (k % 2) 1) (some_meets f xs (k / 2)) ∙ sym (meets_more (f x) (marked f xs) k)
  where
    go : (b : Bool) → some_in f (chosen xs (k / 2)) ≡ meets (marked f xs) (k / 2)
        → some_in f (kept b x (chosen xs (k / 2))) ≡ ((b && f x) || meets (marked f xs) (k / 2))
    go true h = ap (λ (c : Bool). f x || c) h
    go false h = h

-- ALL is the opposite of ANY with the opposite fact
all_any : (p : Pattern) (fact : Child → Bool) (ks : List Child) → all_of p fact ks ≡ not (any_of p (λ k. not (fact k)) ks)
unfolding all_of any_of every some_in
all_any p fact [] = refl
all_any p fact (x ∷ xs) = go (concerns p x) (fact x) (all_of p fact xs) (any_of p (λ k. not (fact k)) xs) (all_any p fact xs)
  where
    go : (a b c d : Bool) → c ≡ not d → ((not a || b) && c) ≡ not ((a && not b) || d)
    go true true c d h = h
    go true false c d h = refl
    go false b c d h = h

not_not : (b : Bool) → not (not b) ≡ b
not_not true = refl
not_not false = refl

-- an atom in a configuration, by its mask
pub atom_meets : (kind : Kind) (p : Pattern) (set : ℕ) (xs : List Child) (k : ℕ)
    → atom_holds kind p set (chosen xs k) ≡ turned kind (meets (atom_mask kind p set xs) k)
unfolding atom_holds atom_mask any_of named_in wanted
atom_meets any_in p set xs k = some_meets (wanted p set true) xs k
atom_meets any_not_in p set xs k = some_meets (wanted p set false) xs k
atom_meets all_in p set xs k = all_any p (named_in set) (chosen xs k) ∙ ap not (some_meets (wanted p set false) xs k)
atom_meets all_not_in p set xs k =
    all_any p (λ k. not (named_in set k)) (chosen xs k)
    ∙ ap not (ap (λ (f : Child → Bool). some_in f (chosen xs k)) (fun_ext λ x. ap (λ (b : Bool). concerns p x && b) (not_not (has set x.name))) ∙ some_meets (wanted p set true) xs k)

-- in a block a mask is met by the base or by the lane
met_apart : (m b i : ℕ) → i < 64 → bit_and m (b * 2 ^ 6 + i) ≡ bit_and m (b * 2 ^ 6) + bit_and m i
met_apart m b i l =
    let z : m ≡ m / 64 * 2 ^ 6 + m % 64 = omega arith in
    let r : m % 64 < 2 ^ 6 = omega arith in
    let s : i < 2 ^ 6 = l in
    let p : 0 < 2 ^ 6 = omega arith in
    let both : bit_and m (b * 2 ^ 6 + i) ≡ bit_and (m / 64) b * 2 ^ 6 + bit_and (m % 64) i = ap (λ (x : ℕ). bit_and x (b * 2 ^ 6 + i)) z ∙ and_block 6 (m / 64) b (m % 64) i r s in
    let high : bit_and m (b * 2 ^ 6 + 0) ≡ bit_and (m / 64) b * 2 ^ 6 + bit_and (m % 64) 0 = ap (λ (x : ℕ). bit_and x (b * 2 ^ 6 + 0)) z ∙ and_block 6 (m / 64) b (m % 64) 0 r p in
    let low : bit_and m (0 * 2 ^ 6 + i) ≡ bit_and (m / 64) 0 * 2 ^ 6 + bit_and (m % 64) i = ap (λ (x : ℕ). bit_and x (0 * 2 ^ 6 + i)) z ∙ and_block 6 (m / 64) 0 (m % 64) i r s in
    let a : b * 2 ^ 6 + 0 ≡ b * 2 ^ 6 = omega arith in
    let c : 0 * 2 ^ 6 + i ≡ i = omega arith in
    let high2 : bit_and m (b * 2 ^ 6) ≡ bit_and (m / 64) b * 2 ^ 6 = ap (bit_and m) (sym a) ∙ high ∙ rw (and_zero_r (m % 64)) (omega arith) in
    let low2 : bit_and m i ≡ bit_and (m % 64) i = ap (bit_and m) (sym c) ∙ low ∙ rw (and_zero_r (m / 64)) (omega arith) in
    omega arith

pub meets_block : (m base i : ℕ) → base % 64 ≡ 0 → i < 64 → meets m (base + i) ≡ (meets m base || meets m i)
meets_block m base i d l =
    let z : base ≡ base / 64 * 2 ^ 6 = omega arith in
    let e : bit_and m (base + i) ≡ bit_and m base + bit_and m i = rw z (met_apart m (base / 64) i l) in
    rw e (zero_sum (bit_and m base) (bit_and m i))

-- the word of a block
pub block_unmet : (m low base : ℕ) → bit_and m base ≡ 0 → low ≡ block_word m low base
unfolding block_word
block_unmet m low base e = rw e

pub block_met : (m low base : ℕ) → (bit_and m base ≡ 0 → ⊥) → all_lanes ≡ block_word m low base
unfolding block_word
block_met m low base n = rw (ne_eqb (bit_and m base) 0 n)

pub block_lanes : (m : ℕ) {low : ℕ} (base : ℕ) → Lanes low (meets m) → base % 64 ≡ 0 → Lanes (block_word m low base) (in_block base (meets m))
unfolding block_word
block_lanes m {low} base p d = go (eqb (bit_and m base) 0) refl
  where
    go : (b : Bool) → eqb (bit_and m base) 0 ≡ b → Lanes (choose b (λ _. low) (λ _. all_lanes)) (in_block base (meets m))
    go true e = lanes_as (in_block base (meets m)) p (λ i l. sym (meets_block m base i d l ∙ rw e))
    go false e = lanes_as (in_block base (meets m)) lanes_all (λ i l. sym (meets_block m base i d l ∙ rw e))

-- the word of an atom
abbrev pub turned_word : Kind → ℕ → ℕ
turned_word any_in w = w
turned_word any_not_in w = w
turned_word all_in w = opposite w
turned_word all_not_in w = opposite w

pub atom_lanes : (xs : List Child) (kind : Kind) (p : Pattern) (set m low base : ℕ) → m ≡ atom_mask kind p set xs → Lanes low (meets m) → base % 64 ≡ 0
    → Lanes (turned_word kind (block_word m low base)) (in_block base (true_in xs (atom kind p set)))
unfolding true_in holds
atom_lanes xs kind p set m low base e q d = go kind (block_lanes m base q d) (λ k. atom_meets kind p set xs k ∙ ap (λ (x : ℕ). turned kind (meets x k)) (sym e))
  where
    go : (kind : Kind) → Lanes (block_word m low base) (in_block base (meets m)) → ((k : ℕ) → atom_holds kind p set (chosen xs k) ≡ turned kind (meets m k))
        → Lanes (turned_word kind (block_word m low base)) (λ i. atom_holds kind p set (chosen xs (base + i)))
    go any_in b h = lanes_as (λ i. atom_holds any_in p set (chosen xs (base + i))) b (λ i l. sym (h (base + i)))
    go any_not_in b h = lanes_as (λ i. atom_holds any_not_in p set (chosen xs (base + i))) b (λ i l. sym (h (base + i)))
    go all_in b h = lanes_as (λ i. atom_holds all_in p set (chosen xs (base + i))) (lanes_not b) (λ i l. sym (h (base + i)))
    go all_not_in b h = lanes_as (λ i. atom_holds all_not_in p set (chosen xs (base + i))) (lanes_not b) (λ i l. sym (h (base + i)))

-- the words of the operators
module _ (xs : List Child) (base : ℕ) {x y : ℕ} (g h : Guard) where
  pub both_lanes : Lanes x (in_block base (true_in xs g)) → Lanes y (in_block base (true_in xs h)) → Lanes (bit_and x y) (in_block base (true_in xs (both g h)))
  unfolding true_in holds
  both_lanes p q = lanes_and p q

  pub either_lanes : Lanes x (in_block base (true_in xs g)) → Lanes y (in_block base (true_in xs h)) → Lanes (bit_or x y) (in_block base (true_in xs (either g h)))
  unfolding true_in holds
  either_lanes p q = lanes_or p q

pub opposite_lanes : (xs : List Child) (base : ℕ) {x : ℕ} (g : Guard) → Lanes x (in_block base (true_in xs g)) → Lanes (opposite x) (in_block base (true_in xs (not_guard g)))
unfolding true_in holds
opposite_lanes xs base g p = lanes_not p

-- the low word, bit by bit
unfoldable pub low_so_far : ℕ → ℕ → ℕ → Bool
low_so_far mask j i = some_below j (λ t. has i t && has mask t)

abbrev pub Low : ℕ → ℕ → ℕ → Type 0
Low mask word j = (j ≤ 6) × Lanes word (low_so_far mask j)

pub low_start : (mask : ℕ) → Low mask 0 0
unfolding low_so_far some_below
low_start mask = (omega arith, lanes_none)

pub low_more : (mask word j w : ℕ) → Low mask word j → j < 6 → Lanes w (λ i. has i j) → eqb (bit_and (mask / 2 ^ j) 1) 1 ≡ true → Low mask (bit_or word w) (j + 1)
unfolding low_so_far some_below
low_more mask word j w (_, p) l q t =
    (omega arith, rw add-one (lanes_as (low_so_far mask (suc j)) (lanes_or p q) (λ i m. ap (λ (b : Bool). low_so_far mask j i || b) (go (has i j) (has mask j) (sym (shifted mask j) ∙ t)))))
  where
    go : (a b : Bool) → b ≡ true → a ≡ (a && b)
    go true b e = sym e
    go false b e = refl

pub low_past : (mask word j : ℕ) → Low mask word j → j < 6 → eqb (bit_and (mask / 2 ^ j) 1) 1 ≡ false → Low mask word (j + 1)
unfolding low_so_far some_below
low_past mask word j (_, p) l t =
    (omega arith, rw add-one (lanes_as (low_so_far mask (suc j)) p (λ i m. go (low_so_far mask j i) (has i j) (has mask j) (sym (shifted mask j) ∙ t))))
  where
    go : (o a b : Bool) → b ≡ false → o ≡ (o || (a && b))
    go true a b e = refl
    go false true b e = sym e
    go false false b e = refl

pub low_end : (mask word j : ℕ) → Low mask word j → 6 ≤ j → Lanes word (meets mask)
unfolding low_so_far
low_end mask word j (u, p) l =
    let e : j ≡ 6 = omega arith in
    lanes_as (meets mask) (subst (λ (n : ℕ). Lanes word (low_so_far mask n)) e p) (λ i m. sym (some_met 6 i mask m) ∙ ap (λ (x : ℕ). not (eqb x 0)) (and_comm i mask))

-- the mask, cell by cell from the last
abbrev pub from_cell : List ℕ → List ℕ → ℕ → ℕ → List Child
from_cell classes names count i = listed i (count - i) (λ i. child (get_or classes i 0) (get_or names i 0))

pub record Masking (f : Child → Bool) (classes names : List ℕ) (count mask i : ℕ) : Type 0 where
  pub within : i ≤ count
  pub is : mask ≡ marked f (from_cell classes names count i)

mask_small : (f : Child → Bool) (i n : ℕ) (c : ℕ → Child) → marked f (listed i n c) < 2 ^ n
unfolding marked listed
mask_small f i zero c = omega arith
mask_small f i (suc n) c = go (f (c i)) (mask_small f (suc i) n c)
  where
    go : (b : Bool) → marked f (listed (suc i) n c) < 2 ^ n → bit b + 2 * marked f (listed (suc i) n c) < 2 ^ suc n
    go true l = let e : 1 + 2 * marked f (listed (suc i) n c) < 2 ^ suc n = omega arith in e
    go false l = let e : 0 + 2 * marked f (listed (suc i) n c) < 2 ^ suc n = omega arith in e

pub masking_small : {f : Child → Bool} {classes names : List ℕ} {count mask i : ℕ} → Masking f classes names count mask i → count ≤ 20 → mask < 1048576
masking_small {f} {classes} {names} {count} {mask} {i} m l =
    let a : mask < 2 ^ (count - i) = rw m.is (mask_small f i (count - i) (λ i. child (get_or classes i 0) (get_or names i 0))) in
    let d : count - i ≤ 20 = omega arith in
    lt_of_lt_of_le a (pow_mono d)

pub masking_start : (f : Child → Bool) (classes names : List ℕ) (count : ℕ) → Masking f classes names count 0 count
unfolding marked listed
masking_start f classes names count = let e : count - count ≡ 0 = omega arith in record { within = omega arith; is = rw e }

module _ {f : Child → Bool} {classes names : List ℕ} {count mask i : ℕ} (m : Masking f classes names count mask i) (l : 0 < i) where
  one_more : (b : Bool) → b ≡ f (child (get_or classes (i - 1) 0) (get_or names (i - 1) 0)) → bit b + 2 * mask ≡ marked f (from_cell classes names count (i - 1))
  unfolding marked listed
  one_more b e =
      let z : count - (i - 1) ≡ suc (count - i) = (let w = m.within in omega arith) in
      let s : suc (i - 1) ≡ i = omega arith in
      rw (z, s, ← e, ← m.is)

  pub masking_held : true ≡ f (child (get_or classes (i - 1) 0) (get_or names (i - 1) 0)) → Masking f classes names count (mask * 2 + 1) (i - 1)
  masking_held e = record { within = (let w = m.within in omega arith); is = (let z : mask * 2 + 1 ≡ 1 + 2 * mask = omega arith in z ∙ one_more true e) }

  pub masking_past : false ≡ f (child (get_or classes (i - 1) 0) (get_or names (i - 1) 0)) → Masking f classes names count (mask * 2) (i - 1)
  masking_past e = record { within = (let w = m.within in omega arith); is = (let z : mask * 2 ≡ 0 + 2 * mask = omega arith in z ∙ one_more false e) }

pub masking_end : {f : Child → Bool} {classes names : List ℕ} {count mask i : ℕ} → Masking f classes names count mask i → i ≤ 0 → mask ≡ marked f (cells_from classes names count)
unfolding cells_from
masking_end {f} {classes} {names} {count} {mask} {i} m n = let z : i ≡ 0 = omega arith in let y : count - 0 ≡ count = omega arith in m.is ∙ rw (z, y)

-- one cell
beq : (a b : Bool) → Bool.beq a b ≡ agrees a b
beq true true = refl
beq true false = refl
beq false true = refl
beq false false = refl

pub cell_everyone : (p : Pattern) (set c n : ℕ) (b r : Bool) → r ≡ has set n → p ≡ everyone → Bool.beq r b ≡ wanted p set b (child c n)
unfolding wanted concerns
cell_everyone p set c n b r h e = rw (e, h) (beq (has set n) b)

pub cell_of_class : (p : Pattern) (set c n d : ℕ) (b r : Bool) → r ≡ has set n → p ≡ of_class d → c ≡ d → Bool.beq r b ≡ wanted p set b (child c n)
unfolding wanted concerns
cell_of_class p set c n d b r h e s = rw (e, h, eq-eqb c d s) (beq (has set n) b)

pub cell_of_another : (p : Pattern) (set c n d : ℕ) (b : Bool) → p ≡ of_class d → (c ≡ d → ⊥) → eqb c d ≡ wanted p set b (child c n)
unfolding wanted concerns
cell_of_another p set c n d b e s = rw (e, ne_eqb c d s)
