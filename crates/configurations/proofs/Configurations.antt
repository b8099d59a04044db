-- Laws about specs/Configurations.antt: every child list that fits has a configuration with the same occupied names, the list of a
-- configuration fits exactly if it is not skipped, and it has a child for each set bit.
-- Assumes nothing.
use Prim.Native.Nat.{ℕ, suc, ◌+◌, ◌*◌, ◌/◌, ◌%◌, ◌^◌, ◌<◌, ◌≤◌}
use native.Mathlib.Omega.{arith}
use native.Mathlib.Nat.{pow-suc}
use mathlib.Core.Path.{◌≡◌, refl, sym, ap, ◌∙◌, subst}
use mathlib.Core.Bool.{Bool, true, false, ◌&&◌, ◌||◌, not}
use mathlib.Core.List.{List, [], ◌∷◌, Memᴰ}
use mathlib.Core.Logic.{◌⊎◌, inl, inr}
use lib.Count.{ones, ones_step}
use lib.Dec.{eqb, ltb}
use lib.ListN.{length, get_or}
use borrow.Author.Tests.{ltb-true, lt-ltb, eq-eqb, ne_eqb, eqb-true, eqb-false}
use Rattle.model.specs.Words.{kept, keep, every, listed, has}
use Rattle.model.specs.Tree.{Child, Class}
use Rattle.model.specs.Crews.{child_classes, in_class, belongs, occurs, all_occur, fits, occupied, Same}
use Rattle.model.specs.Sound.{Sound}
use Rattle.model.proofs.Words.{and_left, and_right, and_both, each_intro}
use Rattle.model.proofs.Lists.{listed_mem, every_elim, every_intro, some_in_intro, keep_mem, mem_keep}
use Rattle.model.proofs.Occupancy.{mem_occupied, occupied_mem, covered_same, all_occur_same}
use Rattle.configurations.specs.Configurations.{cell, cells, name_count, chosen, bit, marked, list_of}
use Rattle.configurations.specs.LoopAnswer.{counts}

lowest_bit : (b : Bool) (m : ℕ) → eqb ((bit b + 2 * m) % 2) 1 ≡ b
lowest_bit true m = eq-eqb ((1 + 2 * m) % 2) 1 (omega arith)
lowest_bit false m = ne_eqb ((0 + 2 * m) % 2) 1 (λ e. omega arith)

other_bits : (b : Bool) (m : ℕ) → (bit b + 2 * m) / 2 ≡ m
other_bits true m = let e : (1 + 2 * m) / 2 ≡ m = omega arith in e
other_bits false m = let e : (0 + 2 * m) / 2 ≡ m = omega arith in e

module _ (f : Child → Bool) where
  -- it chooses those that pass the test
  pub chosen_marked : (xs : List Child) → chosen xs (marked f xs) ≡ keep f xs
  unfolding chosen marked keep
  chosen_marked [] = refl
  chosen_marked (x ∷ xs) = rw (lowest_bit (f x) (marked f xs), other_bits (f x) (marked f xs), chosen_marked xs)

  -- and it has as many bits as the list has entries
  pub marked_low : (xs : List Child) → marked f xs < 2 ^ length xs
  unfolding marked
  marked_low [] = omega arith
  marked_low (x ∷ xs) = go (f x) (marked_low xs)
    where
      go : (b : Bool) → marked f xs < 2 ^ length xs → bit b + 2 * marked f xs < 2 ^ suc (length xs)
      go true l = let e : 1 + 2 * marked f xs < 2 ^ suc (length xs) = omega arith in e
      go false l = let e : 0 + 2 * marked f xs < 2 ^ suc (length xs) = omega arith in e

-- what is chosen is of the list
pub chosen_mem : (xs : List Child) (k : ℕ) (x : Child) → Memᴰ x (chosen xs k) → Memᴰ x xs
unfolding chosen
chosen_mem [] k x m = absurd (mathlib.Core.List.Memᴰ.not-nil m)
chosen_mem (y ∷ ys) k x m = go (eqb (k % 2) 1) m (chosen_mem ys (k / 2) x)
  where
    go : (b : Bool) → Memᴰ x (kept b y (chosen ys (k / 2))) → (Memᴰ x (chosen ys (k / 2)) → Memᴰ x ys) → Memᴰ x (y ∷ ys)
    go false n r = mathlib.Core.List.Memᴰ.tail (r n)
    go true n r = at (mathlib.Core.List.Memᴰ.cases_cons n)
      where
        at : (x ≡ y) ⊎ Memᴰ x (chosen ys (k / 2)) → Memᴰ x (y ∷ ys)
        at (inl p) = mathlib.Core.List.Memᴰ.head p
        at (inr q) = mathlib.Core.List.Memᴰ.tail (r q)

module _ (c : Class) (present : ℕ) where
  -- a child that belongs is of one of the sheet's classes and has a name below 32
  pub belongs_low : (k : Child) → belongs c present k ≡ true → (k.class < child_classes c) × (k.name < 32)
  unfolding belongs in_class
  belongs_low k h =
      let K : Bool = ltb k.class (child_classes c) in
      let L : Bool = ltb k.name 32 in
      let M : Bool = has (get_or c.children k.class 0) k.name in
      let i = and_right (has present k.class) (K && (L && M)) h in
      (ltb-true k.class (child_classes c) (and_left K (L && M) i), ltb-true k.name 32 (and_left L M (and_right K (L && M) i)))

  -- a child of a present class whose name is in its class belongs
  belongs_when : (i n : ℕ) → i < child_classes c → n < 32 → has present i ≡ true → has (get_or c.children i 0) n ≡ true
      → belongs c present (record { class = i; name = n }) ≡ true
  unfolding belongs in_class
  belongs_when i n a b p h = rw (p, lt-ltb i (child_classes c) a, lt-ltb n 32 b, h)

  -- the cells are the children that belong
  pub cells_mem : (k : Child) → belongs c present k ≡ true → Memᴰ k (cells c present)
  unfolding cells cell
  cells_mem k h =
      let (a, b) = belongs_low k h in
      let j : ℕ = k.class * 32 + k.name in
      let p : j / 32 ≡ k.class = omega arith in
      let r : j % 32 ≡ k.name = omega arith in
      let e : cell j ≡ k = λ d. record { class = p d; name = r d } in
      let m : Memᴰ (cell j) (listed 0 (child_classes c * 32) cell) = listed_mem 0 (child_classes c * 32) cell j j (omega arith) (omega arith) in
      mem_keep (belongs c present) (listed 0 (child_classes c * 32) cell) k (subst (λ x. Memᴰ x (listed 0 (child_classes c * 32) cell)) e m) h

  -- and no others
  pub mem_cells : (k : Child) → Memᴰ k (cells c present) → belongs c present k ≡ true
  unfolding cells
  mem_cells k m = (keep_mem (belongs c present) (listed 0 (child_classes c * 32) cell) k m).1

  -- every child of a configuration's list belongs
  pub list_belongs : (k : ℕ) → every (belongs c present) (list_of c present k) ≡ true
  unfolding list_of
  list_belongs k = every_intro (belongs c present) (chosen (cells c present) k) (λ x m. mem_cells x (chosen_mem (cells c present) k x m))

  -- so its list fits exactly if the configuration is not skipped
  pub fits_counts : (k : ℕ) → fits c present (list_of c present k) ≡ counts c present k
  unfolding fits counts
  fits_counts k = rw (list_belongs k)

  -- a list that fits has a configuration, which is not skipped, with the same occupied names
  pub configured : (ks : List Child) → fits c present ks ≡ true
      → (k : ℕ) × (k < 2 ^ name_count c present) × Same (list_of c present k) ks × (counts c present k ≡ true)
  unfolding list_of fits counts
  configured ks h = (k, marked_low seen (cells c present), same, all_occur_same (list_of c present k) ks same c present ∙ occur)
    where
      seen : Child → Bool
      seen x = occupied ks x.class x.name

      belong : every (belongs c present) ks ≡ true
      belong = and_left (every (belongs c present) ks) (all_occur c present ks) h

      occur : all_occur c present ks ≡ true
      occur = and_right (every (belongs c present) ks) (all_occur c present ks) h

      k : ℕ
      k = marked seen (cells c present)

      from : (x : Child) → Memᴰ x (keep seen (cells c present)) → Memᴰ x ks
      from x m = occupied_mem ks x.class x.name (keep_mem seen (cells c present) x m).1

      to : (x : Child) → Memᴰ x ks → Memᴰ x (keep seen (cells c present))
      to x m =
          mem_keep seen (cells c present) x (cells_mem x (every_elim (belongs c present) ks belong x m)) (mem_occupied ks x m)

      same : Same (list_of c present k) ks
      same = rw (chosen_marked seen (cells c present)) (covered_same (keep seen (cells c present)) ks from to)

  -- one child for each name of each present class: a list that fits
  pub cells_fit : Sound c → fits c present (cells c present) ≡ true
  unfolding fits all_occur occurs
  cells_fit s =
      and_both (every (belongs c present) (cells c present)) (all_occur c present (cells c present))
      (every_intro (belongs c present) (cells c present) mem_cells)
      (each_intro (child_classes c) (λ i. not (has present i) || occurs i (cells c present)) (λ i l. go i l (has present i) refl))
    where
      here : (i : ℕ) → i < child_classes c → has present i ≡ true → occurs i (cells c present) ≡ true
      here i l p =
          let (n, low, named) = s.named i l in
          let k : Child = record { class = i; name = n } in
          some_in_intro (λ x. eqb x.class i) (cells c present) k (cells_mem k (belongs_when i n l low p named)) (eq-eqb i i refl)

      go : (i : ℕ) → i < child_classes c → (b : Bool) → has present i ≡ b → (not b || occurs i (cells c present)) ≡ true
      go i l false p = refl
      go i l true p = here i l p

  -- some configuration is not skipped
  pub some_counts : Sound c → (k : ℕ) × (k < 2 ^ name_count c present) × (counts c present k ≡ true)
  some_counts s = let (k, l, same, t) = configured (cells c present) (cells_fit s) in (k, l, t)

-- a configuration's list has a child for each set bit
pub chosen_length : (xs : List Child) (k : ℕ) → k < 2 ^ length xs → length (chosen xs k) ≡ ones k
unfolding chosen ones
chosen_length [] k h = let z : k ≡ 0 = omega (arith, h) in ap ones (sym z)
chosen_length (x ∷ xs) k h =
    let p : 2 ^ suc (length xs) ≡ 2 ^ length xs * 2 = pow-suc 2 (length xs) in
    go (eqb (k % 2) 1) refl (chosen_length xs (k / 2) (omega arith)) (ones_step k)
  where
    go : (b : Bool) → eqb (k % 2) 1 ≡ b → length (chosen xs (k / 2)) ≡ ones (k / 2) → ones k ≡ k % 2 + ones (k / 2) → length (kept b x (chosen xs (k / 2))) ≡ ones k
    go true e r s = omega (arith, r, s, eqb-true (k % 2) 1 e)
    go false e r s = let z : k % 2 ≡ 0 = omega (arith, eqb-false (k % 2) 1 e) in omega (arith, r, s)

-- and no more children than there are cells
pub chosen_most : (xs : List Child) (k : ℕ) → length (chosen xs k) ≤ length xs
unfolding chosen
chosen_most [] k = omega arith
chosen_most (x ∷ xs) k = go (eqb (k % 2) 1) (chosen_most xs (k / 2))
  where
    go : (b : Bool) → length (chosen xs (k / 2)) ≤ length xs → length (kept b x (chosen xs (k / 2))) ≤ suc (length xs)
    go true r = omega arith
    go false r = omega arith
