-- The records of a guard, read back: as the guard if no path has more operators than are allowed, else as none.
-- Assumes nothing.
use Prim.Native.Nat.{ℕ, zero, suc, ◌+◌, ◌≤◌, ◌<◌, ◌/◌, max}
use native.Mathlib.Omega.{arith}
use mathlib.Core.Path.{◌≡◌, refl, sym, ◌∙◌, ap}
use mathlib.Core.List.{List, [], ◌∷◌, ◌++◌}
use mathlib.Core.Logic.{◌⊎◌, inl, inr}
use lib.ListN.{length, length-append}
use lib.Seq.{drop-append_seam}
use lib.Dec.{leb}
use borrow.Author.Tests.{ne_eqb, le-leb, lt-leb}
use Rattle.model.specs.Tree.{Pattern, everyone, of_class, Kind, any_in, any_not_in, all_in, all_not_in, Guard, atom, both, either, opposite}
use Rattle.model.proofs.Words.{lt_or_le}
use Rattle.records.specs.GuardRecords.{Read, got, broken, is_read, Operator, two, one, Record, leaf, operator, joined, shaped, record_of, guard_at, operands, pattern_of}
use Rattle.records.proofs.GuardLaws.{record_there, read_as, joined_deep}
use Rattle.encoding.specs.Records.{Eight, four, eight, number, bytes8, eights}
use Rattle.encoding.specs.Encoding.{kind_number, pattern_number, guard_records, operator_record}
use Rattle.encoding.specs.Limits.{operators}
use Rattle.encoding.specs.Numbers.{PatternNumbers, GuardNumbers}
use Rattle.encoding.proofs.From.{From, next, regroup, inside, again32, count_eights, record_eights}

pub pattern_again : (p : Pattern) (K : ℕ) → K ≤ 255 → PatternNumbers p K → pattern_of (pattern_number p) ≡ p
pattern_again everyone K l w = refl
pattern_again (of_class c) K l w = rw (ne_eqb c 255 (λ e. omega arith))

-- what a guard's records read as: the guard, but for a child class 255, which no class has
unfoldable pub seen : Guard → Guard
seen (atom k p s) = atom k (pattern_of (pattern_number p)) s
seen (both g h) = both (seen g) (seen h)
seen (either g h) = either (seen g) (seen h)
seen (opposite g) = opposite (seen g)

pub seen_same : (g : Guard) (K : ℕ) → K ≤ 255 → GuardNumbers g K → seen g ≡ g
unfolding seen
seen_same (atom k p s) K l w = rw (pattern_again p K l w.0)
seen_same (both g h) K l w = rw (seen_same g K l w.0, seen_same h K l w.1)
seen_same (either g h) K l w = rw (seen_same g K l w.0, seen_same h K l w.1)
seen_same (opposite g) K l w = rw (seen_same g K l w)

abbrev atom_record : Kind → ℕ → ℕ → Eight
atom_record k p s = eight (four (kind_number k) p 0 0) (number s)

atom_again : (k : Kind) (p s : ℕ) → leaf k (pattern_of p) s ≡ record_of (bytes8 (atom_record k p s) [])
unfolding record_of kind_number
atom_again any_in p s = ap (leaf any_in (pattern_of p)) (sym (again32 s))
atom_again any_not_in p s = ap (leaf any_not_in (pattern_of p)) (sym (again32 s))
atom_again all_in p s = ap (leaf all_in (pattern_of p)) (sym (again32 s))
atom_again all_not_in p s = ap (leaf all_not_in (pattern_of p)) (sym (again32 s))

-- an operator's guard, for each way that its operands are read
module _ (from : ℕ → Read) (i : ℕ) where
  two_read : (op : Guard → Guard → Guard) (j k : ℕ) (g h : Guard) → from i ≡ got g j → from j ≡ got h k → joined from i (two op) ≡ got (op g h) k
  unfolding joined
  two_read op j k g h e f = rw (e, f)

  two_first : (op : Guard → Guard → Guard) → from i ≡ broken → joined from i (two op) ≡ broken
  unfolding joined
  two_first op e = rw e

  two_second : (op : Guard → Guard → Guard) (j : ℕ) (g : Guard) → from i ≡ got g j → from j ≡ broken → joined from i (two op) ≡ broken
  unfolding joined
  two_second op j g e f = rw (e, f)

  one_read : (op : Guard → Guard) (j : ℕ) (g : Guard) → from i ≡ got g j → joined from i (one op) ≡ got (op g) j
  unfolding joined
  one_read op j g e = rw e

  one_broken : (op : Guard → Guard) → from i ≡ broken → joined from i (one op) ≡ broken
  unfolding joined
  one_broken op e = rw e

module _ (rs : List Eight) where
  -- a guard is what its first record makes of it
  first : (d n : ℕ) (r : Eight) (xs : List Eight) (x : Record) → From rs n (r ∷ xs) → x ≡ record_of (bytes8 r [])
      → guard_at d (eights rs) n ≡ shaped (operands d (eights rs)) n x
  first d n r xs x f e =
      let l : n < length (eights rs) / 8 = omega (arith, inside rs n r xs f, count_eights rs) in
      read_as d (eights rs) n (record_there (eights rs) n l e (sym (record_eights rs n r xs f)))

  -- where the operands of an operator on two stand
  left_at : (k n : ℕ) (xs ys more : List Eight) → From rs n (operator_record k ∷ (xs ++ ys) ++ more) → From rs (n + 1) (xs ++ (ys ++ more))
  left_at k n xs ys more f = regroup rs (n + 1) xs ys more (next rs n (operator_record k ∷ []) (xs ++ ys ++ more) f)

  right_at : (k n : ℕ) (xs ys more : List Eight) → From rs n (operator_record k ∷ (xs ++ ys) ++ more) → From rs (n + 1 + length xs) (ys ++ more)
  right_at k n xs ys more f = next rs (n + 1) xs (ys ++ more) (left_at k n xs ys more f)

  abbrev Reads : Guard → ℕ → Type 0
  Reads g d = (n : ℕ) (more : List Eight) → operators g ≤ d → From rs n (guard_records g ++ more) → guard_at d (eights rs) n ≡ got (seen g) (n + length (guard_records g))

  abbrev Breaks : Guard → ℕ → Type 0
  Breaks g d = (n : ℕ) (more : List Eight) → d < operators g → From rs n (guard_records g ++ more) → guard_at d (eights rs) n ≡ broken

  -- an operator on two, whose operands read back
  module _ (op : Guard → Guard → Guard) (k : ℕ) (e : operator (two op) ≡ record_of (bytes8 (operator_record k) [])) (g h : Guard) (n : ℕ) (more : List Eight)
      (f : From rs n (operator_record k ∷ (guard_records g ++ guard_records h) ++ more)) where
    two_back : (d : ℕ) → operators g ≤ d → operators h ≤ d → Reads g d → Reads h d
        → guard_at (suc d) (eights rs) n ≡ got (op (seen g) (seen h)) (n + length (operator_record k ∷ (guard_records g ++ guard_records h)))
    unfolding operands
    two_back d lg lh p q =
        let G = guard_records g in
        let H = guard_records h in
        let z : n + 1 + length G + length H ≡ n + length (operator_record k ∷ (G ++ H)) = omega (arith, length-append G H) in
        first (suc d) n (operator_record k) (G ++ H ++ more) (operator (two op)) f e
        ∙ two_read (guard_at d (eights rs)) (n + 1) op (n + 1 + length G) (n + 1 + length G + length H) (seen g) (seen h)
        (p (n + 1) (H ++ more) lg (left_at k n G H more f)) (q (n + 1 + length G) more lh (right_at k n G H more f))
        ∙ ap (got (op (seen g) (seen h))) z

    two_broken : (d : ℕ) → (d < operators g) ⊎ ((operators g ≤ d) × (d < operators h)) → Reads g d → Breaks g d → Breaks h d → guard_at (suc d) (eights rs) n ≡ broken
    unfolding operands
    two_broken d (inl l) r p q =
        let G = guard_records g in
        let H = guard_records h in
        first (suc d) n (operator_record k) (G ++ H ++ more) (operator (two op)) f e
        ∙ two_first (guard_at d (eights rs)) (n + 1) op (p (n + 1) (H ++ more) l (left_at k n G H more f))
    two_broken d (inr (l, m)) r p q =
        let G = guard_records g in
        let H = guard_records h in
        first (suc d) n (operator_record k) (G ++ H ++ more) (operator (two op)) f e
        ∙ two_second (guard_at d (eights rs)) (n + 1) op (n + 1 + length G) (seen g)
        (r (n + 1) (H ++ more) l (left_at k n G H more f)) (q (n + 1 + length G) more m (right_at k n G H more f))

  pub guard_read : (g : Guard) (d : ℕ) → Reads g d
  unfolding guard_records operators seen operands record_of
  guard_read (atom k p s) d n more l f = first d n (atom_record k (pattern_number p) s) more (leaf k (pattern_of (pattern_number p)) s) f (atom_again k (pattern_number p) s)
  guard_read (both g h) zero n more l f = absurd (omega arith)
  guard_read (both g h) (suc d) n more l f = two_back both 4 refl g h n more f d (omega arith) (omega arith) (guard_read g d) (guard_read h d)
  guard_read (either g h) zero n more l f = absurd (omega arith)
  guard_read (either g h) (suc d) n more l f = two_back either 5 refl g h n more f d (omega arith) (omega arith) (guard_read g d) (guard_read h d)
  guard_read (opposite g) zero n more l f = absurd (omega arith)
  guard_read (opposite g) (suc d) n more l f =
      let G = guard_records g in
      let z : n + 1 + length G ≡ n + length (operator_record 6 ∷ G) = omega arith in
      first (suc d) n (operator_record 6) (G ++ more) (operator (one opposite)) f refl
      ∙ one_read (guard_at d (eights rs)) (n + 1) opposite (n + 1 + length G) (seen g) (guard_read g d (n + 1) more (omega arith) (next rs n (operator_record 6 ∷ []) (G ++ more) f))
      ∙ ap (got (opposite (seen g))) z

  -- one of two is too deep, and the first that is comes first
  deeper : (d m k : ℕ) → suc d < suc (max m k) → (d < m) ⊎ ((m ≤ d) × (d < k))
  deeper d m k l = go (lt_or_le d m)
    where
      go : (d < m) ⊎ (m ≤ d) → (d < m) ⊎ ((m ≤ d) × (d < k))
      go (inl a) = inl a
      go (inr a) = inr (a, (omega arith))

  -- with no operator left on the path an operator's guard is not read
  none_left : (n k : ℕ) (xs : List Eight) (op : Operator) → From rs n (operator_record k ∷ xs) → operator op ≡ record_of (bytes8 (operator_record k) []) → guard_at 0 (eights rs) n ≡ broken
  none_left n k xs op f e = first 0 n (operator_record k) xs (operator op) f e ∙ joined_deep 0 (eights rs) (n + 1) refl op

  pub guard_broken : (g : Guard) (d : ℕ) → Breaks g d
  unfolding guard_records operators operands record_of
  guard_broken (atom k p s) d n more l f = absurd (omega arith)
  guard_broken (both g h) zero n more l f = none_left n 4 (guard_records g ++ guard_records h ++ more) (two both) f refl
  guard_broken (both g h) (suc d) n more l f = two_broken both 4 refl g h n more f d (deeper d (operators g) (operators h) l) (guard_read g d) (guard_broken g d) (guard_broken h d)
  guard_broken (either g h) zero n more l f = none_left n 5 (guard_records g ++ guard_records h ++ more) (two either) f refl
  guard_broken (either g h) (suc d) n more l f = two_broken either 5 refl g h n more f d (deeper d (operators g) (operators h) l) (guard_read g d) (guard_broken g d) (guard_broken h d)
  guard_broken (opposite g) zero n more l f = none_left n 6 (guard_records g ++ more) (one opposite) f refl
  guard_broken (opposite g) (suc d) n more l f =
      first (suc d) n (operator_record 6) (guard_records g ++ more) (operator (one opposite)) f refl
      ∙ one_broken (guard_at d (eights rs)) (n + 1) opposite (guard_broken g d (n + 1) more (omega arith) (next rs n (operator_record 6 ∷ []) (guard_records g ++ more) f))

  pub guard_same : (g : Guard) (K d n : ℕ) (more : List Eight) → K ≤ 255 → GuardNumbers g K → operators g ≤ d → From rs n (guard_records g ++ more)
      → guard_at d (eights rs) n ≡ got g (n + length (guard_records g))
  guard_same g K d n more l w o f = guard_read g d n more o f ∙ ap (λ (u : Guard). got u (n + length (guard_records g))) (seen_same g K l w)

-- behind other records and before others
behind_at : (before xs : List Eight) → From (before ++ xs) (length before) xs
behind_at before xs = record { same = drop-append_seam before xs; ends = sym (length-append before xs) }

-- a guard's records read as the guard and end behind it, with as many operators on a path as it has or more
pub guard_reads : (g : Guard) (K d : ℕ) (before behind : List Eight) → K ≤ 255 → GuardNumbers g K → operators g ≤ d
    → guard_at d (eights (before ++ (guard_records g ++ behind))) (length before) ≡ got g (length before + length (guard_records g))
guard_reads g K d before behind l w o =
    guard_same (before ++ (guard_records g ++ behind)) g K d (length before) behind l w o (behind_at before (guard_records g ++ behind))

-- and as none with fewer
pub guard_too_deep : (g : Guard) (d : ℕ) (before behind : List Eight) → d < operators g
    → guard_at d (eights (before ++ (guard_records g ++ behind))) (length before) ≡ broken
guard_too_deep g d before behind l = guard_broken (before ++ (guard_records g ++ behind)) g d (length before) behind l (behind_at before (guard_records g ++ behind))

-- so that reading tells whether a guard is too deep
pub guard_tells : (g : Guard) (d : ℕ) (before behind : List Eight)
    → is_read (guard_at d (eights (before ++ (guard_records g ++ behind))) (length before)) ≡ leb (operators g) d
guard_tells g d before behind = go (lt_or_le d (operators g))
  where
    go : (d < operators g) ⊎ (operators g ≤ d) → is_read (guard_at d (eights (before ++ (guard_records g ++ behind))) (length before)) ≡ leb (operators g) d
    go (inl l) = rw (guard_too_deep g d before behind l, lt-leb (operators g) d l)
    go (inr l) =
        rw (guard_read (before ++ (guard_records g ++ behind)) g d (length before) behind l (behind_at before (guard_records g ++ behind)), le-leb (operators g) d l)
