-- Laws about a configuration spread into sets.
-- Assumes nothing.
use Prim.Native.Nat.{ℕ, zero, suc, ◌+◌, ◌-◌, ◌/◌, ◌^◌, ◌<◌, ◌≤◌}
use native.Mathlib.Omega.{arith}
use native.Mathlib.Numerals.{add-one}
use mathlib.Core.Path.{◌≡◌, refl, sym, ap, ◌∙◌, subst}
use mathlib.Core.Bool.{true, false}
use mathlib.Core.List.{List, [], ◌∷◌}
use lib.Dec.{eqb}
use lib.Bits.{bit_and, bit_or}
use lib.ListN.{length, get_or, set, drop, replicate, get_or-replicate, length-set, drop_of_length-le}
use lib.Pow.{shr-shr}
use lib.Seq.{drop-cons}
use borrow.Author.Tests.{ne_eqb}
use Rattle.model.specs.Words.{has, kept, some_in}
use Rattle.model.specs.Tree.{Child}
use Rattle.model.specs.Crews.{occupied}
use Rattle.model.proofs.Lists.{length_listed, get_or_listed, mem_listed}
use Rattle.model.proofs.Bits.{has_none}
use Rattle.children.specs.NameSets.{Shows, Crewed}
use Rattle.model.proofs.Masks.{shifted}
use Rattle.children.proofs.CrewLaws.{shows_more}
use Rattle.configurations.specs.Configurations.{chosen}
use Rattle.configurations.specs.Cells.{cells_from, cells_of, AllSmall}
use Rattle.configurations.specs.declared.Cells.{Cells}
use Rattle.configurations.proofs.Configurations.{chosen_mem}
use Rattle.loops.specs.Cells.{Spreads}

-- a store of a small number leaves small numbers; zeros are small
set_small : (l : List ℕ) (i v b : ℕ) → v < b → ((k : ℕ) → get_or l k 0 < b) → (k : ℕ) → get_or (set l i v) k 0 < b
set_small [] i v b p h k = h k
set_small (x ∷ l) zero v b p h zero = p
set_small (x ∷ l) zero v b p h (suc k) = h (suc k)
set_small (x ∷ l) (suc i) v b p h zero = h zero
set_small (x ∷ l) (suc i) v b p h (suc k) = set_small l i v b p (λ k. h (suc k)) k

zeros_small : (n b : ℕ) → 0 < b → (k : ℕ) → get_or (replicate n 0) k 0 < b
zeros_small zero b p k = p
zeros_small (suc n) b p zero = p
zeros_small (suc n) b p (suc k) = zeros_small n b p k

-- what is chosen of a list from entry i on
chosen_from : (xs : List Child) (k i : ℕ) (d : Child) → i < length xs
    → chosen (drop i xs) (k / 2 ^ i) ≡ kept (has k i) (get_or xs i d) (chosen (drop (suc i) xs) (k / 2 ^ suc i))
unfolding chosen has
chosen_from xs k i d l = rw (drop-cons xs i d l, shr-shr k i 1) (let e : i + 1 ≡ suc i = add-one i in rw e)

-- from the last cell down: the sets show what is chosen of the cells from i on
pub record Spreading (cs ns : List ℕ) (n k : ℕ) (sets : List ℕ) (i : ℕ) : Type 0 where
  pub inside : i ≤ n
  pub eight : length sets ≡ 8
  pub narrow : (j : ℕ) → get_or sets j 0 < 2 ^ 32
  pub shown : Shows sets (chosen (drop i (cells_from cs ns n)) (k / 2 ^ i))

module _ (cs ns : List ℕ) (n k : ℕ) where
  length_from : length (cells_from cs ns n) ≡ n
  unfolding cells_from
  length_from = length_listed 0 n (λ i. record { class = get_or cs i 0; name = get_or ns i 0 })

  at_from : (i : ℕ) (d : Child) → i < n → get_or (cells_from cs ns n) i d ≡ record { class = get_or cs i 0; name = get_or ns i 0 }
  unfolding cells_from
  at_from i d l = get_or_listed 0 n (λ i. record { class = get_or cs i 0; name = get_or ns i 0 }) d i i l (omega arith)

  pub spreading_start : Spreading cs ns n k (replicate 8 0) n
  unfolding occupied some_in chosen
  spreading_start =
      record {
        inside = omega arith;
        eight = refl;
        narrow = zeros_small 8 (2 ^ 32) (omega arith);
        shown = λ j m p q. rw (drop_of_length-le (cells_from cs ns n) (let z : length (cells_from cs ns n) ≤ n = (let x = length_from in omega arith) in z), get_or-replicate {A = ℕ} 8 j 0 0 p) (has_none m);
      }

  module _ (sets : List ℕ) (i : ℕ) (s : Spreading cs ns n k sets i) (turn : 0 < i) where
    step : chosen (drop (i - 1) (cells_from cs ns n)) (k / 2 ^ (i - 1)) ≡ kept (has k (i - 1)) (record { class = get_or cs (i - 1) 0; name = get_or ns (i - 1) 0 }) (chosen (drop i (cells_from cs ns n)) (k / 2 ^ i))
    step =
        let z : suc (i - 1) ≡ i = omega arith in
        let d : Child = record { class = 0; name = 0 } in
        rw (chosen_from (cells_from cs ns n) k (i - 1) d (let x = length_from in let y = s.inside in omega arith), z, at_from (i - 1) d (let y = s.inside in omega arith))

    pub spreading_more : (r : ℕ) → bit_and (k / 2 ^ (i - 1)) 1 ≡ 1 → (x y : ℕ) → x ≡ get_or cs (i - 1) 0 → y ≡ get_or ns (i - 1) 0 → x < 8 → r ≡ bit_or (get_or sets x 0) (2 ^ y) → r < 2 ^ 32
        → Spreading cs ns n k (set sets x r) (i - 1)
    spreading_more r t x y ex ey l e u =
        let h : has k (i - 1) ≡ true = sym (shifted k (i - 1)) ∙ ap (λ (x : ℕ). eqb x 1) t in
        record {
          inside = (let y = s.inside in omega arith);
          eight = length-set sets x r ∙ s.eight;
          narrow = set_small sets x r (2 ^ 32) u s.narrow;
          shown = rw (step, sym ex, sym ey, h, e) (shows_more sets (chosen (drop i (cells_from cs ns n)) (k / 2 ^ i)) x y (let z = s.eight in omega arith) s.shown);
        }

    pub spreading_past : (bit_and (k / 2 ^ (i - 1)) 1 ≡ 1 → ⊥) → Spreading cs ns n k sets (i - 1)
    spreading_past t =
        let h : has k (i - 1) ≡ false = sym (shifted k (i - 1)) ∙ ne_eqb (bit_and (k / 2 ^ (i - 1)) 1) 1 t in
        record { inside = (let y = s.inside in omega arith); eight = s.eight; narrow = s.narrow; shown = rw (step, h) s.shown }

  pub spreading_end : (sets : List ℕ) (i : ℕ) → Spreading cs ns n k sets i → i ≤ 0 → Spreads sets (chosen (cells_from cs ns n) k)
  spreading_end sets i s l =
      let e : i ≡ 0 = omega arith in
      let z : k / 2 ^ 0 ≡ k = (let y : k / 1 ≡ k = omega arith in y) in
      record {
        eight = s.eight;
        narrow = s.narrow;
        shows = subst (λ (x : ℕ). Shows sets (chosen (cells_from cs ns n) x)) z (subst (λ (x : ℕ). Shows sets (chosen (drop x (cells_from cs ns n)) (k / 2 ^ x))) e s.shown);
      }

-- the sets of a configuration show its list, whose children are small
pub crewed : (r : Cells) (k : ℕ) (sets : List ℕ) → AllSmall r → Spreads sets (chosen (cells_of r) k) → Crewed sets (chosen (cells_of r) k)
unfolding cells_from
crewed r k sets a s =
    record {
      eight = s.eight;
      shows = s.shows;
      small = λ x m.
          let (i, low, high, e) = mem_listed 0 r.count (λ i. record { class = get_or r.classes i 0; name = get_or r.names i 0 }) x (chosen_mem (cells_of r) k x m) in
          rw e (record { class_small = a.class_small i; name_small = a.name_small i });
    }
