-- The words of a block are the truths of the guards: wherever a guard is read, at any depth, its word has the lanes in which it is true, and
-- it ends where its size says.
-- Assumes nothing.
use Prim.Native.Nat.{ℕ, zero, suc, ◌+◌, ◌%◌, ◌<◌, ◌≤◌}
use native.Mathlib.Omega.{arith}
use mathlib.Core.Path.{◌≡◌, refl, ap, ◌∙◌}
use mathlib.Core.List.{List}
use mathlib.Core.Logic.{◌⊎◌, inl, inr}
use lib.ListN.{get_or}
use Rattle.model.specs.Tree.{Child, Guard, atom, both, either, opposite as not_guard}
use Rattle.model.proofs.Words.{clash, lt_or_le}
use Rattle.records.specs.GuardRecords.{Read, got, broken, by_read, two, one, joined, shaped, guard_with, guard_at, guard_from}
use Rattle.records.specs.Patterns.{pattern_as}
use Rattle.records.specs.Records.{kind_as, record_as}
use Rattle.records.specs.declared.guards.Kind.{Kind}
use Rattle.records.specs.declared.guards.Kind.TheVariants.{AnyIn, AnyNotIn, AllIn, AllNotIn}
use Rattle.records.specs.declared.guards.Operator.{Operator}
use Rattle.records.specs.declared.guards.Operator.TheVariants.{Both, Either, Opposite}
use Rattle.records.specs.declared.guards.GuardRecord.{GuardRecord}
use Rattle.records.specs.declared.guards.GuardRecord.TheVariants.{Atom, Operator as IsOperator, Unknown}
use Rattle.records.specs.declared.kinds.Pattern.{Pattern}
use Rattle.records.proofs.GuardLaws.{record_past}
use Rattle.lanes.specs.Lanes.{Lanes, in_block}
use Rattle.lanes.specs.Masks.{block_word, true_in}
use Rattle.lanes.proofs.MaskLaws.{turned_word, atom_lanes, both_lanes, either_lanes, opposite_lanes}
use Rattle.truths.specs.Plans.{atom_number, record_number, record_mask, right_of, record_size, Row, Planned}
use Rattle.truths.specs.Words.{word_of, Filled}
use Rattle.truths.specs.declared.plans.Plan.{Plan}

-- an operator's operands that are read
one_from : (o : Read) (op : Guard → Guard) (g : Guard) (e : ℕ) → by_read o (λ _. broken) (λ g j. got (op g) j) ≡ got g e → (h : Guard) × (o ≡ got h e) × (g ≡ op h)
one_from (got h j) op g e q = (h, cc, cc)
one_from broken op g e q = absurd (clash (cc))

two_from : (o : Read) (more : ℕ → Read) (op : Guard → Guard → Guard) (g : Guard) (e : ℕ)
    → by_read o (λ _. broken) (λ g j. by_read (more j) (λ _. broken) (λ h k. got (op g h) k)) ≡ got g e
    → (h : Guard) × (j : ℕ) × (f : Guard) × (o ≡ got h j) × (more j ≡ got f e) × (g ≡ op h f)
two_from (got h j) more op g e q = let (f, a, b) = one_from (more j) (op h) g e q in (h, j, f, refl, a, b)
two_from broken more op g e q = absurd (clash (cc))

module _ (gs : List ℕ) (xs : List Child) (r : Plan) (P : Planned gs xs r) (base : ℕ) (round : base % 64 ≡ 0) (before words : List ℕ)
    (F : Filled 0 r.count r.kinds r.sizes r.masks r.lows base before words) where
  -- the word and the end of a guard that begins at record i
  abbrev Right : ℕ → Guard → ℕ → Type 0
  Right i g e = Lanes (get_or words i 0) (in_block base (true_in xs g)) × (e ≡ i + get_or r.sizes i 0)

  -- what its first record is
  module _ (i : ℕ) (l : i < r.count) where
    abbrev row : Row gs xs i (get_or r.kinds i 0) (get_or r.masks i 0) (get_or r.lows i 0) (get_or r.sizes i 0) r.sizes
    row = P.row i l

    word_is : (x : GuardRecord) → row.read ≡ x → get_or words i 0 ≡ word_of (record_number x) (get_or r.masks i 0) (get_or r.lows i 0) base i r.sizes words
    word_is x e = F.word i (omega arith) l ∙ ap (λ (n : ℕ). word_of n (get_or r.masks i 0) (get_or r.lows i 0) base i r.sizes words) (row.number_is ∙ ap record_number e)

    size_is : (x : GuardRecord) → row.read ≡ x → get_or r.sizes i 0 ≡ record_size x i r.sizes
    size_is x e = row.size_is ∙ ap (λ (x : GuardRecord). record_size x i r.sizes) e

    -- an atom's word
    atom_word : (kind : Kind) → word_of (atom_number kind) (get_or r.masks i 0) (get_or r.lows i 0) base i r.sizes words ≡ turned_word (kind_as kind) (block_word (get_or r.masks i 0) (get_or r.lows i 0) base)
    unfolding word_of
    atom_word AnyIn = refl
    atom_word AnyNotIn = refl
    atom_word AllIn = refl
    atom_word AllNotIn = refl

    atom_right : (kind : Kind) (p : Pattern) (set : ℕ) (g : Guard) (e : ℕ) → row.read ≡ Atom kind p set → got (atom (kind_as kind) (pattern_as p) set) (i + 1) ≡ got g e → Right i g e
    atom_right kind p set g e is q =
        let a : get_or words i 0 ≡ turned_word (kind_as kind) (block_word (get_or r.masks i 0) (get_or r.lows i 0) base) = word_is (Atom kind p set) is ∙ atom_word kind in
        let z : atom (kind_as kind) (pattern_as p) set ≡ g = cc in
        let y : i + 1 ≡ e = cc in
        let s = size_is (Atom kind p set) is in
        (rw (a, ← z) (atom_lanes xs (kind_as kind) (pattern_as p) set (get_or r.masks i 0) (get_or r.lows i 0) base (row.mask_is ∙ ap (record_mask xs) is) row.low_is round), omega arith)

    -- an operator's, of operands whose words are right
    module _ (o : ℕ → Read) (R : (j : ℕ) (g : Guard) (e : ℕ) → o j ≡ got g e → Right j g e) where
      opposite_right : (g : Guard) (e : ℕ) → row.read ≡ IsOperator Opposite → joined o (i + 1) (one not_guard) ≡ got g e → Right i g e
      unfolding joined word_of
      opposite_right g e is q =
          let (h, a, b) = one_from (o (i + 1)) not_guard g e q in
          let (H, u) = R (i + 1) h e a in
          let s = size_is (IsOperator Opposite) is in
          (rw (word_is (IsOperator Opposite) is, b) (opposite_lanes xs base h H), omega arith)

      two_right : (op : Guard → Guard → Guard) (g : Guard) (e : ℕ) → joined o (i + 1) (two op) ≡ got g e
          → (h : Guard) × (f : Guard) × (g ≡ op h f) × Lanes (get_or words (i + 1) 0) (in_block base (true_in xs h)) × Lanes (get_or words (right_of i r.sizes) 0) (in_block base (true_in xs f))
          × (e ≡ right_of i r.sizes + get_or r.sizes (right_of i r.sizes) 0)
      unfolding joined
      two_right op g e q =
          let (h, j, f, a, b, t) = two_from (o (i + 1)) o op g e q in
          let (H, u) = R (i + 1) h j a in
          let (G, v) = R j f e b in
          (h, f, t, H, rw u at G, v ∙ ap (λ (n : ℕ). n + get_or r.sizes n 0) u)

      operator_right : (op : Operator) (g : Guard) (e : ℕ) → row.read ≡ IsOperator op → shaped o i (record_as (IsOperator op)) ≡ got g e → Right i g e
      unfolding word_of
      operator_right Both g e is q =
          let (h, f, t, H, G, v) = two_right both g e q in
          let s = size_is (IsOperator Both) is in
          (rw (word_is (IsOperator Both) is, t) (both_lanes xs base h f H G), omega arith)
      operator_right Either g e is q =
          let (h, f, t, H, G, v) = two_right either g e q in
          let s = size_is (IsOperator Either) is in
          (rw (word_is (IsOperator Either) is, t) (either_lanes xs base h f H G), omega arith)
      operator_right Opposite g e is q = opposite_right g e is q

      here : (x : GuardRecord) (g : Guard) (e : ℕ) → row.read ≡ x → shaped o i (record_as x) ≡ got g e → Right i g e
      here (Atom kind p set) g e is q = atom_right kind p set g e is q
      here (IsOperator op) g e is q = operator_right op g e is q
      here Unknown g e is q = absurd (clash (cc))

  -- by any reader of operands whose words are right
  right_with : (o : ℕ → Read) → ((j : ℕ) (g : Guard) (e : ℕ) → o j ≡ got g e → Right j g e) → (i : ℕ) (g : Guard) (e : ℕ) → guard_with o gs i ≡ got g e → Right i g e
  unfolding guard_with
  right_with o R i g e q = go (lt_or_le i r.count)
    where
      go : (i < r.count) ⊎ (r.count ≤ i) → Right i g e
      go (inl l) = here i l o R (P.row i l).read g e refl (ap (shaped o i) (P.row i l).is ∙ q)
      go (inr l) = absurd (clash (cc (ap (shaped o i) (record_past gs i (let n = P.number in omega arith)), q)))

  -- at any depth
  pub words_right : (d i : ℕ) (g : Guard) (e : ℕ) → guard_at d gs i ≡ got g e → Right i g e
  unfolding guard_at
  words_right zero = right_with (λ j. broken) (λ j g e q. absurd (clash (cc)))
  words_right (suc d) = right_with (guard_at d gs) (words_right d)

  pub truth_right : (i : ℕ) (g : Guard) (e : ℕ) → guard_from gs i ≡ got g e → Lanes (get_or words i 0) (in_block base (true_in xs g))
  unfolding guard_from
  truth_right i g e q = (words_right 16 i g e q).0
