-- The cells that the code reads of an accepted sheet are the class's.
-- Assumes nothing.
use Prim.Native.Nat.{ℕ, zero, suc, ◌+◌, ◌-◌, ◌*◌, ◌/◌, ◌%◌, ◌<◌, ◌≤◌}
use native.Mathlib.Omega.{arith}
use native.Mathlib.Nat.{suc-add}
use mathlib.Core.Path.{◌≡◌, refl, sym, ap, ◌∙◌}
use mathlib.Core.Bool.{Bool, true, false, ◌&&◌, and-false}
use mathlib.Core.List.{List, [], ◌∷◌, ◌++◌, append-nil}
use mathlib.Core.Logic.{◌⊎◌, inl, inr}
use lib.ListN.{length, get_or}
use borrow.Author.Tests.{lt-ltb, le-ltb}
use Rattle.model.specs.Words.{has, keep, listed}
use Rattle.model.specs.Tree.{Child}
use Rattle.model.specs.Crews.{child_classes, in_class, belongs}
use Rattle.model.proofs.Words.{lt_or_le}
use Rattle.model.proofs.Lists.{keep_append}
use Rattle.sheet.specs.Contents.{body, bodies}
use Rattle.bodies.specs.Clauses.{name_set}
use Rattle.records.specs.Bytes.{in_fours}
use Rattle.sheet.specs.Reading.{class_of}
use Rattle.sheet.specs.Verdict.{Stands}
use Rattle.sheet.specs.declared.judging.Places.{Places}
use Rattle.sheet.proofs.Contents.{counted}
use Rattle.sheet.proofs.Reading.{child_classes_in, name_set_in}
use Rattle.accepted.proofs.ReaderLaws.{stands_right}
use Rattle.configurations.specs.Configurations.{cell, cells, name_count}
use Rattle.configurations.specs.Cells.{cells_of, first_twenty}
use Rattle.configurations.specs.declared.Cells.{Cells}
use Rattle.blocks.specs.Search.{CellsOf}
use Rattle.loops.specs.Cells.{cell_present, present_among, present_cells}
use Rattle.loops.proofs.CellLaws.{cell_past, present_small, twenty_all, twenty_small}

listed_split {ℓ} : {A : Type ℓ} (i n m : ℕ) (f : ℕ → A) → listed i (n + m) f ≡ listed i n f ++ listed (i + n) m f
unfolding listed
listed_split i zero m f = let z : 0 + m ≡ m = omega arith in let y : i + 0 ≡ i = omega arith in rw (z, y)
listed_split i (suc n) m f =
    rw suc-add (ap (◌∷◌ (f i)) (listed_split (suc i) n m f ∙ ap (λ (j : ℕ). listed (suc i) n f ++ listed j m f) (let e : suc i + n ≡ i + suc n = omega arith in e)))

module _ {ℓ} {A : Type ℓ} (h : ℕ → A) where
  -- the same are kept by tests that agree on the list
  keep_same : (f g : A → Bool) → ((j : ℕ) → f (h j) ≡ g (h j)) → (i n : ℕ) → keep f (listed i n h) ≡ keep g (listed i n h)
  unfolding keep listed
  keep_same f g e i zero = refl
  keep_same f g e i (suc n) = rw (e i, keep_same f g e (suc i) n)

  -- none is kept where none passes
  keep_none : (f : A → Bool) (i n : ℕ) → ((j : ℕ) → i ≤ j → f (h j) ≡ false) → keep f (listed i n h) ≡ []
  unfolding keep listed
  keep_none f i zero e = refl
  keep_none f i (suc n) e = rw (e i (omega arith)) (keep_none f (suc i) n (λ j l. e j (omega arith)))

module _ (b : List ℕ) (p : Places) (stands : Stands b p) (present : ℕ) where
  pub classes_are : child_classes (class_of b) ≡ in_fours (body b 0)
  unfolding class_of bodies
  classes_are = child_classes_in (bodies b)

  pub classes_most : child_classes (class_of b) ≤ 8
  unfolding bodies
  classes_most = let x : in_fours (body b 0) ≤ 8 = (counted b (stands_right b p stands)).classes_most in let y = classes_are in omega arith

  -- a cell is present for the code exactly if it belongs
  present_here : (i n : ℕ) → i < in_fours (body b 0) → cell_present (body b 0) present i n ≡ (has present i && has (name_set (body b 0) i) n)
  unfolding cell_present
  present_here i n l = rw (lt-ltb i (in_fours (body b 0)) l)

  belongs_here : (j : ℕ) → j / 32 < child_classes (class_of b) → belongs (class_of b) present (cell j) ≡ (has present (j / 32) && has (get_or (class_of b).children (j / 32) 0) (j % 32))
  unfolding belongs in_class cell
  belongs_here j l = rw (lt-ltb (j / 32) (child_classes (class_of b)) l, lt-ltb (j % 32) 32 (let z : j % 32 < 32 = omega arith in z))

  names_are : (i : ℕ) → i < in_fours (body b 0) → get_or (class_of b).children i 0 ≡ name_set (body b 0) i
  unfolding class_of bodies
  names_are i l = name_set_in (bodies b) i l

  belongs_past : (j : ℕ) → child_classes (class_of b) * 32 ≤ j → belongs (class_of b) present (cell j) ≡ false
  unfolding belongs in_class cell
  belongs_past j l = rw (le-ltb (j / 32) (child_classes (class_of b)) (let z : child_classes (class_of b) ≤ j / 32 = omega arith in z), and-false)

  cell_belongs : (j : ℕ) → cell_present (body b 0) present (cell j).class (cell j).name ≡ belongs (class_of b) present (cell j)
  unfolding cell
  cell_belongs j = go (lt_or_le (j / 32) (in_fours (body b 0)))
    where
      go : (j / 32 < in_fours (body b 0)) ⊎ (in_fours (body b 0) ≤ j / 32) → cell_present (body b 0) present (j / 32) (j % 32) ≡ belongs (class_of b) present (cell j)
      go (inl l) =
          present_here (j / 32) (j % 32) l ∙ ap (λ (x : ℕ). has present (j / 32) && has x (j % 32)) (sym (names_are (j / 32) l))
          ∙ sym (belongs_here j (let x = classes_are in omega arith))
      go (inr l) = cell_past (body b 0) present (j / 32) (j % 32) (in_fours (body b 0)) refl l ∙ sym (belongs_past j (let x = classes_are in omega arith))

  pub cells_agree : present_cells (body b 0) present ≡ cells (class_of b) present
  unfolding present_among cells
  cells_agree =
      let K : ℕ = child_classes (class_of b) in
      let z : 256 ≡ K * 32 + (256 - K * 32) = (let x = classes_most in omega arith) in
      keep_same cell (λ k. cell_present (body b 0) present k.class k.name) (belongs (class_of b) present) cell_belongs 0 256
      ∙ ap (λ (n : ℕ). keep (belongs (class_of b) present) (listed 0 n cell)) z
      ∙ ap (keep (belongs (class_of b) present)) (listed_split 0 (K * 32) (256 - K * 32) cell)
      ∙ keep_append (belongs (class_of b) present) (listed 0 (K * 32) cell) (listed (0 + K * 32) (256 - K * 32) cell)
      ∙ ap (λ (xs : List Child). keep (belongs (class_of b) present) (listed 0 (K * 32) cell) ++ xs) (keep_none cell (belongs (class_of b) present) (0 + K * 32) (256 - K * 32) (λ j l. belongs_past j (omega arith)))
      ∙ append-nil (keep (belongs (class_of b) present) (listed 0 (K * 32) cell))

-- the cells that the code reads of an accepted sheet are those of its class, and their number is N, also where there are more than 20
module _ (b : List ℕ) (p : Places) (stands : Stands b p) (present : ℕ) (r : Cells) (read : r ≡ first_twenty (present_cells (body b 0) present)) where
  pub number_own : r.count ≡ name_count (class_of b) present
  unfolding first_twenty
  number_own = ap (λ (c : Cells). c.count) read ∙ ap length (cells_agree b p stands present)

  pub cells_own : r.count ≤ 20 → ((i : ℕ) → has present i ≡ true → i < child_classes (class_of b)) → CellsOf b present r
  unfolding first_twenty
  cells_own few below =
      let n : r.count ≡ length (present_cells (body b 0) present) = ap (λ (c : Cells). c.count) read in
      record {
        own = ap cells_of read ∙ twenty_all (present_cells (body b 0) present) (omega arith) ∙ cells_agree b p stands present;
        few = few;
        small = rw read (twenty_small (present_cells (body b 0) present) (present_small (body b 0) present));
        below = below;
      }
