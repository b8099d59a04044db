-- The promises of this floor leave one answer.
-- Assumes nothing.
use Prim.Native.Nat.{ℕ, zero, suc, ◌+◌, ◌<◌, ◌≤◌}
use native.Mathlib.Omega.{arith}
use mathlib.Core.Path.{◌≡◌, refl, sym, ap, ◌∙◌}
use mathlib.Core.List.{List}
use mathlib.Core.Logic.{◌⊎◌, inl, inr}
use lib.ListN.{get_or}
use lib.Seq.{ext_get_or}
use Rattle.model.specs.Tree.{Child}
use Rattle.model.proofs.Words.{lt_or_le}
use Rattle.records.specs.declared.guards.Operator.{Operator}
use Rattle.records.specs.declared.guards.Operator.TheVariants.{Both, Either, Opposite}
use Rattle.records.specs.declared.guards.GuardRecord.{GuardRecord}
use Rattle.records.specs.declared.guards.GuardRecord.TheVariants.{Atom, Operator as IsOperator, Unknown}
use Rattle.records.proofs.Unique.{unique as told_apart}
use Rattle.lanes.proofs.LaneLaws.{lanes_one}
use Rattle.truths.specs.Plans.{record_number, record_mask, right_of, operator_size, record_size, Planned}
use Rattle.truths.specs.Words.{word_of, Filled}
use Rattle.truths.specs.Unique.{Unique}
use Rattle.truths.specs.declared.plans.Plan.{Plan}

-- two tables that agree behind j, and at j if they do behind it, agree from the end to the front
pub from_behind : (x y : List ℕ) (n : ℕ) → ((j : ℕ) → n ≤ j → get_or x j 0 ≡ get_or y j 0)
    → ((j : ℕ) → j < n → ((i : ℕ) → j < i → get_or x i 0 ≡ get_or y i 0) → get_or x j 0 ≡ get_or y j 0) → (j : ℕ) → get_or x j 0 ≡ get_or y j 0
from_behind x y zero past step j = past j (omega arith)
from_behind x y (suc n) past step j = from_behind x y n (λ j l. at j l (lt_or_le n j)) (λ j l h. step j (omega arith) h) j
  where
    at : (j : ℕ) → n ≤ j → (n < j) ⊎ (j ≤ n) → get_or x j 0 ≡ get_or y j 0
    at j l (inl u) = past j (omega arith)
    at j l (inr u) = let z : j ≡ n = omega arith in rw z (step n (omega arith) (λ i m. past i (omega arith)))

-- the size of a record goes by the sizes behind it
operator_same : (op : Operator) (j : ℕ) (x y : List ℕ) → ((i : ℕ) → j < i → get_or x i 0 ≡ get_or y i 0) → operator_size op j x ≡ operator_size op j y
operator_same Both j x y h = rw (h (j + 1) (omega arith)) (ap (λ (n : ℕ). 1 + get_or y (j + 1) 0 + n) (h (right_of j y) (omega arith)))
operator_same Either j x y h = rw (h (j + 1) (omega arith)) (ap (λ (n : ℕ). 1 + get_or y (j + 1) 0 + n) (h (right_of j y) (omega arith)))
operator_same Opposite j x y h = ap (λ (n : ℕ). 1 + n) (h (j + 1) (omega arith))

size_same : (r : GuardRecord) (j : ℕ) (x y : List ℕ) → ((i : ℕ) → j < i → get_or x i 0 ≡ get_or y i 0) → record_size r j x ≡ record_size r j y
size_same (Atom k p s) j x y h = refl
size_same (IsOperator op) j x y h = operator_same op j x y h
size_same Unknown j x y h = refl

module _ (gs : List ℕ) (xs : List Child) (r s : Plan) (P : Planned gs xs r) (Q : Planned gs xs s) where
  same_count : r.count ≡ s.count
  same_count = P.number ∙ sym Q.number

  same_read : (j : ℕ) (a : j < r.count) (b : j < s.count) → (P.row j a).read ≡ (Q.row j b).read
  same_read j a b = told_apart.guard_records (P.row j a).read (Q.row j b).read ((P.row j a).is ∙ sym (Q.row j b).is)

  -- entry j of two tables, given where it is a record's and behind the last
  entries : (x y : List ℕ) → ((j : ℕ) → j < r.count → j < s.count → get_or x j 0 ≡ get_or y j 0) → ((j : ℕ) → r.count ≤ j → get_or x j 0 ≡ 0) → ((j : ℕ) → s.count ≤ j → get_or y j 0 ≡ 0)
      → (j : ℕ) → get_or x j 0 ≡ get_or y j 0
  entries x y f g h j = go (lt_or_le j r.count)
    where
      go : (j < r.count) ⊎ (r.count ≤ j) → get_or x j 0 ≡ get_or y j 0
      go (inl l) = f j l (let z = same_count in omega arith)
      go (inr l) = g j l ∙ sym (h j (let z = same_count in omega arith))

  masks_agree : (j : ℕ) → get_or r.masks j 0 ≡ get_or s.masks j 0
  masks_agree = entries r.masks s.masks (λ j a b. (P.row j a).mask_is ∙ ap (record_mask xs) (same_read j a b) ∙ sym (Q.row j b).mask_is) P.no_mask Q.no_mask

  sizes_agree : (j : ℕ) → get_or r.sizes j 0 ≡ get_or s.sizes j 0
  sizes_agree =
      from_behind r.sizes s.sizes r.count (λ j l. P.no_size j l ∙ sym (Q.no_size j (let z = same_count in omega arith)))
      (λ j l h.
      let m : j < s.count = (let z = same_count in omega arith) in
      (P.row j l).size_is ∙ size_same (P.row j l).read j r.sizes s.sizes h ∙ ap (λ (x : GuardRecord). record_size x j s.sizes) (same_read j l m) ∙ sym (Q.row j m).size_is)

  one_plan : r ≡ s
  one_plan =
      let k : r.kinds ≡ s.kinds = ext_get_or 0 r.kinds s.kinds (P.kinds_long ∙ sym Q.kinds_long)
      (λ j u. entries r.kinds s.kinds (λ j a b. (P.row j a).number_is ∙ ap record_number (same_read j a b) ∙ sym (Q.row j b).number_is) P.no_kind Q.no_kind j) in
      let z : r.sizes ≡ s.sizes = ext_get_or 0 r.sizes s.sizes (P.sizes_long ∙ sym Q.sizes_long) (λ j u. sizes_agree j) in
      let m : r.masks ≡ s.masks = ext_get_or 0 r.masks s.masks (P.masks_long ∙ sym Q.masks_long) (λ j u. masks_agree j) in
      let w : r.lows ≡ s.lows = ext_get_or 0 r.lows s.lows (P.lows_long ∙ sym Q.lows_long)
      (λ j u. entries r.lows s.lows (λ j a b. lanes_one (rw (masks_agree j) at (P.row j a).low_is) (Q.row j b).low_is) P.no_low Q.no_low j) in
      λ i. record { kinds = k i; sizes = z i; masks = m i; lows = w i; count = same_count i }

-- the word of a record goes by the words behind it
word_same : (k mask low base j : ℕ) (sizes x y : List ℕ) → ((i : ℕ) → j < i → get_or x i 0 ≡ get_or y i 0) → word_of k mask low base j sizes x ≡ word_of k mask low base j sizes y
unfolding word_of
word_same k mask low base j sizes x y h = rw (h (j + 1) (omega arith), h (right_of j sizes) (omega arith))

one_filling : (n : ℕ) (kinds sizes masks lows : List ℕ) (base : ℕ) (before words others : List ℕ)
    → Filled 0 n kinds sizes masks lows base before words → Filled 0 n kinds sizes masks lows base before others → words ≡ others
one_filling n kinds sizes masks lows base before words others F G =
    ext_get_or 0 words others (F.long ∙ sym G.long)
    (λ j u. from_behind words others n (λ i l. F.kept i l ∙ sym (G.kept i l))
    (λ i l h. F.word i (omega arith) l ∙ word_same (get_or kinds i 0) (get_or masks i 0) (get_or lows i 0) base i sizes words others h ∙ sym (G.word i (omega arith) l)) j)

pub unique : Unique
unique = record { planning = one_plan; filling = one_filling }
