-- Laws about specs/Cells.antt: which cells are present, and the reading of the first twenty of them.
-- Assumes nothing.
use Prim.Native.Nat.{ℕ, zero, suc, ◌+◌, ◌/◌, ◌%◌, ◌^◌, ◌<◌, ◌≤◌}
use native.Mathlib.Omega.{arith}
use native.Mathlib.Numerals.{add-one}
use mathlib.Core.Path.{◌≡◌, refl, sym, ap, ◌∙◌}
use mathlib.Core.Bool.{Bool, true, false, ◌&&◌}
use mathlib.Core.List.{List, [], ◌∷◌, ◌++◌, append-nil, Memᴰ}
use mathlib.Core.Logic.{◌⊎◌, inl, inr}
use lib.Dec.{eqb}
use lib.Bits.{bit_and}
use lib.ListN.{length, get_or, set, replicate, length-append, length-set}
use lib.Seq.{get_or-append_seam, get_or-set_same, get_or-set_other, set_out, ext_get_or}
use borrow.Author.Tests.{lt-ltb, le-ltb}
use Rattle.model.specs.Words.{has, kept, keep, listed}
use Rattle.model.specs.Tree.{Child}
use Rattle.model.specs.Unique.{LeavesOne}
use Rattle.model.proofs.Words.{lt_or_le}
use Rattle.model.proofs.Lists.{length_listed, get_or_listed, get_or_past, mem_listed, keep_mem, listed_more, keep_append, listed_same}
use Rattle.model.proofs.Unique.{equations}
use Rattle.bodies.specs.Clauses.{name_set}
use Rattle.records.specs.Bytes.{in_fours}
use Rattle.children.specs.NameSets.{Small}
use Rattle.model.proofs.Masks.{shifted}
use Rattle.configurations.specs.Configurations.{cell}
use Rattle.configurations.specs.Cells.{cells_from, cells_of, cell_at, first_twenty, AllSmall}
use Rattle.configurations.specs.declared.Cells.{Cells}
use Rattle.loops.specs.Cells.{cell_present, present_among, present_cells}

-- a class that the sheet has not, k being the number of its classes
pub cell_past : (classes : List ℕ) (present i n k : ℕ) → k ≡ in_fours classes → k ≤ i → cell_present classes present i n ≡ false
unfolding cell_present
cell_past classes present i n k e l = rw (le-ltb i (in_fours classes) (omega arith))

-- a class that it has: the class's bit and the name's
pub cell_here : (classes : List ℕ) (present i n k s : ℕ) (r : Bool) → k ≡ in_fours classes → i < k → s ≡ name_set classes i → r ≡ has s n
    → (eqb (bit_and (present / 2 ^ i) 1) 1 && r) ≡ cell_present classes present i n
unfolding cell_present
cell_here classes present i n k s r d l e f = rw (shifted present i, lt-ltb i (in_fours classes) (omega arith), f, e)

-- each of the 256 pairs is of a class below 8 and has a name below 32
pub pair_small : (k : Child) → Memᴰ k (listed 0 256 cell) → Small k
unfolding cell
pair_small k m = let (j, low, high, e) = mem_listed 0 256 cell k m in rw e (record { class_small = omega arith; name_small = omega arith })

-- a store at one place of a list that is given by its entries
module _ (n : ℕ) (f g : ℕ → ℕ) (k v : ℕ) (there : g k ≡ v) (others : (j : ℕ) → (j ≡ k → ⊥) → g j ≡ f j) where
  entry_other : (j : ℕ) → j < n → (j ≡ k → ⊥) → get_or (set (listed 0 n f) k v) j 0 ≡ g j
  entry_other j l h = get_or-set_other (listed 0 n f) k j v 0 h ∙ get_or_listed 0 n f 0 j j l (omega arith) ∙ sym (others j h)

  entry_set : (j : ℕ) → j < n → (j < k) ⊎ (k ≤ j) → (k < j) ⊎ (j ≤ k) → get_or (set (listed 0 n f) k v) j 0 ≡ g j
  entry_set j l (inl u) w = entry_other j l (λ e. omega arith)
  entry_set j l (inr u) (inl w) = entry_other j l (λ e. omega arith)
  entry_set j l (inr u) (inr w) =
      let e : j ≡ k = omega arith in
      rw e (get_or-set_same (listed 0 n f) k v 0 (let z = length_listed 0 n f in omega arith) ∙ sym there)

  listed_set : set (listed 0 n f) k v ≡ listed 0 n g
  listed_set =
      let long : length (set (listed 0 n f) k v) ≡ n = length-set (listed 0 n f) k v ∙ length_listed 0 n f in
      ext_get_or 0 (set (listed 0 n f) k v) (listed 0 n g) (long ∙ sym (length_listed 0 n g))
      (λ j l. entry_set j (omega arith) (lt_or_le j k) (lt_or_le k j) ∙ sym (get_or_listed 0 n g 0 j j (omega arith) (omega arith)))

-- a list with one cell more: it is behind the others, which are where they were
at_other : (ks : List Child) (k : Child) (j : ℕ) → (j ≡ length ks → ⊥) → cell_at (ks ++ (k ∷ [])) j ≡ cell_at ks j
at_other [] k zero h = absurd (h refl)
at_other [] k (suc j) h = refl
at_other (x ∷ ks) k zero h = refl
at_other (x ∷ ks) k (suc j) h = at_other ks k j (λ e. h (ap suc e))

at_end : (ks : List Child) (k : Child) → cell_at (ks ++ (k ∷ [])) (length ks) ≡ k
at_end ks k = get_or-append_seam ks k [] (record { class = 0; name = 0 })

-- so the classes, or the names, of the first twenty change at one place, if at all
entries_more : (f : Child → ℕ) (ks : List Child) (k : Child) → set (listed 0 20 (λ i. f (cell_at ks i))) (length ks) (f k) ≡ listed 0 20 (λ i. f (cell_at (ks ++ (k ∷ [])) i))
entries_more f ks k = listed_set 20 (λ i. f (cell_at ks i)) (λ i. f (cell_at (ks ++ (k ∷ [])) i)) (length ks) (f k) (ap f (at_end ks k)) (λ j h. ap f (at_other ks k j h))

-- what the code makes of a cell more; past the twentieth nothing is stored
abbrev with_cell : Cells → ℕ → ℕ → Cells
with_cell r x y = record { classes = set r.classes r.count x; names = set r.names r.count y; count = r.count + 1 }

twenty_more : (ks : List Child) (k : Child) → with_cell (first_twenty ks) k.class k.name ≡ first_twenty (ks ++ (k ∷ []))
unfolding first_twenty
twenty_more ks k = λ i. record { classes = entries_more (λ k. k.class) ks k i; names = entries_more (λ k. k.name) ks k i; count = sym (length-append ks (k ∷ [])) i }

-- twenty numbers are as they were after a store past the twentieth
stored_past : (l : List ℕ) (f : ℕ → ℕ) (n v : ℕ) → l ≡ listed 0 20 f → 20 ≤ n → l ≡ set l n v
stored_past l f n v e h = let z = ap length e ∙ length_listed 0 20 f in sym (set_out l n v (omega arith))

-- the reading of the cells after j pairs
pub record Reading (classes : List ℕ) (present : ℕ) (cs ns : List ℕ) (count j : ℕ) : Type 0 where
  pub inside : j ≤ 256
  pub fewer : count ≤ j
  pub read : record { classes = cs; names = ns; count = count } ≡ first_twenty (present_among classes present j)

module _ (classes : List ℕ) (present : ℕ) where
  -- one pair more, kept or not
  among_next : (j : ℕ) (b : Bool) → cell_present classes present (j / 32) (j % 32) ≡ b
      → present_among classes present (j + 1) ≡ present_among classes present j ++ kept b (cell j) []
  unfolding present_among keep cell
  among_next j b t =
      let z : 0 + j ≡ j = omega arith in
      rw (add-one, listed_more 0 j cell, keep_append (λ k. cell_present classes present k.class k.name) (listed 0 j cell) (cell (0 + j) ∷ []), z, t)

  -- at first
  pub reading_start : Reading classes present (replicate 20 0) (replicate 20 0) 0 0
  unfolding first_twenty present_among keep listed
  reading_start = record { inside = omega arith; fewer = omega arith; read = refl }

  -- the pair with number j, of a class x and a name y, is looked up
  module _ (cs ns : List ℕ) (count j : ℕ) (r : Reading classes present cs ns count j) (turn : j < 256) (x y : ℕ) (ex : x ≡ j / 32) (ey : y ≡ j % 32) (t : Bool) (e : t ≡ cell_present classes present x y) where
    told : {b : Bool} → t ≡ b → cell_present classes present (j / 32) (j % 32) ≡ b
    told f = rw (sym ex, sym ey) (sym e ∙ f)

    -- a pair that is present and has room
    pub reading_more : t ≡ true → Reading classes present (set cs count x) (set ns count y) (count + 1) (j + 1)
    unfolding cell
    reading_more f =
        record {
          inside = omega arith;
          fewer = (let x = r.fewer in omega arith);
          read = ap (λ (c : Cells). with_cell c x y) r.read ∙ rw (ex, ey) (twenty_more (present_among classes present j) (cell j)) ∙ ap first_twenty (sym (among_next j true (told f)));
        }

    -- a pair that is present, past the twentieth
    pub reading_full : t ≡ true → 20 ≤ count → Reading classes present cs ns (count + 1) (j + 1)
    unfolding first_twenty
    reading_full f l =
        let ks : List Child = present_among classes present j in
        let same_classes : cs ≡ set cs count x = stored_past cs (λ i. (cell_at ks i).class) count x (ap (λ (c : Cells). c.classes) r.read) l in
        let same_names : ns ≡ set ns count y = stored_past ns (λ i. (cell_at ks i).name) count y (ap (λ (c : Cells). c.names) r.read) l in
        let more = reading_more f in
        record {
          inside = more.inside;
          fewer = more.fewer;
          read = (λ i. record { classes = same_classes i; names = same_names i; count = count + 1 }) ∙ more.read;
        }

    -- a pair that is not present
    pub reading_past : t ≡ false → Reading classes present cs ns count (j + 1)
    reading_past f =
        record {
          inside = omega arith;
          fewer = (let x = r.fewer in omega arith);
          read = r.read ∙ ap first_twenty (sym (among_next j false (told f) ∙ append-nil (present_among classes present j)));
        }

  -- after all pairs
  pub reading_end : (cs ns : List ℕ) (count j : ℕ) → Reading classes present cs ns count j → 256 ≤ j
      → record { classes = cs; names = ns; count = count } ≡ first_twenty (present_cells classes present)
  reading_end cs ns count j r l =
      let e : j ≡ 256 = (let x = r.inside in omega arith) in
      r.read ∙ ap (λ (n : ℕ). first_twenty (present_among classes present n)) e

  -- the promise of `read_cells` leaves one answer
  pub one_reading : LeavesOne (λ (r : Cells). r ≡ first_twenty (present_cells classes present))
  one_reading = equations.named (first_twenty (present_cells classes present))

  -- a cell that is present is one of the 256 pairs
  pub present_small : (k : Child) → Memᴰ k (present_cells classes present) → Small k
  unfolding present_among
  present_small k m = pair_small k (keep_mem (λ k. cell_present classes present k.class k.name) (listed 0 256 cell) k m).0

-- what is read of at most twenty cells is the cells
module _ (ks : List Child) where
  listed_all : listed 0 (length ks) (cell_at ks) ≡ ks
  listed_all =
      ext_get_or (record { class = 0; name = 0 }) (listed 0 (length ks) (cell_at ks)) ks (length_listed 0 (length ks) (cell_at ks))
      (λ j l. get_or_listed 0 (length ks) (cell_at ks) (record { class = 0; name = 0 }) j j (let z = length_listed 0 (length ks) (cell_at ks) in omega arith) (omega arith))

  pub twenty_all : length ks ≤ 20 → cells_of (first_twenty ks) ≡ ks
  unfolding first_twenty cells_from
  twenty_all l =
      listed_same 0 (length ks) (λ i. record { class = get_or (listed 0 20 (λ i. (cell_at ks i).class)) i 0; name = get_or (listed 0 20 (λ i. (cell_at ks i).name)) i 0 }) (cell_at ks)
      (λ j u d. record { class = get_or_listed 0 20 (λ i. (cell_at ks i).class) 0 j j (omega arith) (omega arith) d; name = get_or_listed 0 20 (λ i. (cell_at ks i).name) 0 j j (omega arith) (omega arith) d })
      ∙ listed_all

-- the numbers read of small cells are small
at_small : (ks : List Child) → ((k : Child) → Memᴰ k ks → Small k) → (i : ℕ) → Small (cell_at ks i)
at_small [] h i = record { class_small = omega arith; name_small = omega arith }
at_small (k ∷ ks) h zero = h k (Memᴰ.head refl)
at_small (k ∷ ks) h (suc i) = at_small ks (λ x m. h x (Memᴰ.tail m)) i

entry_small : (n : ℕ) (f : ℕ → ℕ) (b : ℕ) → 0 < b → ((i : ℕ) → f i < b) → (i : ℕ) → get_or (listed 0 n f) i 0 < b
entry_small n f b p h i = go (lt_or_le i n)
  where
    go : (i < n) ⊎ (n ≤ i) → get_or (listed 0 n f) i 0 < b
    go (inl l) = rw (get_or_listed 0 n f 0 i i l (omega arith)) (h i)
    go (inr l) = rw (get_or_past 0 n f 0 i l) p

pub twenty_small : (ks : List Child) → ((k : Child) → Memᴰ k ks → Small k) → AllSmall (first_twenty ks)
unfolding first_twenty
twenty_small ks h =
    record {
      class_small = entry_small 20 (λ i. (cell_at ks i).class) 8 (omega arith) (λ i. (at_small ks h i).class_small);
      name_small = entry_small 20 (λ i. (cell_at ks i).name) 32 (omega arith) (λ i. (at_small ks h i).name_small);
    }
