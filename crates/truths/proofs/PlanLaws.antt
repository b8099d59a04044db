-- Laws about specs/Plans.antt: a record more is planned, from the last to the first.
-- Assumes nothing.
use Prim.Native.Nat.{ℕ, ◌+◌, ◌-◌, ◌/◌, ◌<◌, ◌≤◌}
use native.Mathlib.Omega.{arith}
use mathlib.Core.Path.{◌≡◌, refl, sym, ap, ◌∙◌}
use mathlib.Core.Bool.{Bool}
use mathlib.Core.List.{List}
use mathlib.Core.Logic.{◌⊎◌, inl, inr}
use lib.ListN.{length, get_or, set, length-set, replicate}
use lib.Seq.{get_or-set_same, get_or-set_other}
use Rattle.model.specs.Tree.{Child}
use Rattle.model.proofs.Words.{lt_or_le}
use Rattle.model.proofs.Lists.{get_or_zeros}
use Rattle.records.specs.GuardRecords.{guard_record}
use Rattle.records.specs.Patterns.{pattern_as}
use Rattle.records.specs.Records.{kind_as, record_as}
use Rattle.records.specs.declared.kinds.Pattern.{Pattern}
use Rattle.records.specs.declared.guards.Kind.{Kind}
use Rattle.records.specs.declared.guards.Operator.{Operator}
use Rattle.records.specs.declared.guards.Operator.TheVariants.{Both, Either, Opposite}
use Rattle.records.specs.declared.guards.GuardRecord.{GuardRecord}
use Rattle.records.specs.declared.guards.GuardRecord.TheVariants.{Atom, Operator as IsOperator, Unknown}
use Rattle.lanes.specs.Lanes.{Lanes}
use Rattle.configurations.specs.Configurations.{marked}
use Rattle.lanes.specs.Masks.{meets, wanted, inside, atom_mask}
use Rattle.truths.specs.Plans.{record_number, record_mask, right_of, operator_size, record_size, Row, Planned}

-- the mask of an atom, by the fact that it looks for
pub mask_told : (xs : List Child) (x : GuardRecord) (kind : Kind) (p : Pattern) (set m : ℕ) (b : Bool) → x ≡ Atom kind p set → b ≡ inside (kind_as kind)
    → m ≡ marked (wanted (pattern_as p) set b) xs → m ≡ record_mask xs x
unfolding atom_mask
mask_told xs x kind p set m b e f h = rw (e, ← f) h

-- a store at i leaves what is behind it
pub behind : (l : List ℕ) (i v j : ℕ) → i < j → get_or (set l i v) j 0 ≡ get_or l j 0
behind l i v j u = get_or-set_other l i j v 0 (λ e. omega arith)

-- so the size of a record goes by the sizes behind it
operator_behind : (op : Operator) (i j v : ℕ) (sizes : List ℕ) → i ≤ j → operator_size op j (set sizes i v) ≡ operator_size op j sizes
operator_behind Both i j v sizes l =
    let a = behind sizes i v (j + 1) (omega arith) in
    rw a (ap (λ (x : ℕ). 1 + get_or sizes (j + 1) 0 + x) (behind sizes i v (right_of j sizes) (omega arith)))
operator_behind Either i j v sizes l =
    let a = behind sizes i v (j + 1) (omega arith) in
    rw a (ap (λ (x : ℕ). 1 + get_or sizes (j + 1) 0 + x) (behind sizes i v (right_of j sizes) (omega arith)))
operator_behind Opposite i j v sizes l = ap (λ (x : ℕ). 1 + x) (behind sizes i v (j + 1) (omega arith))

pub size_behind : (x : GuardRecord) (i j v : ℕ) (sizes : List ℕ) → i ≤ j → record_size x j (set sizes i v) ≡ record_size x j sizes
size_behind (Atom k p s) i j v sizes l = refl
size_behind (IsOperator op) i j v sizes l = operator_behind op i j v sizes l
size_behind Unknown i j v sizes l = refl

-- the size of an operator, with two operands and with one
pub size_two : (op : Operator) (i : ℕ) (sizes : List ℕ) (a b : ℕ) → a ≡ get_or sizes (i + 1) 0 → b ≡ get_or sizes (i + 1 + a) 0 → (op ≡ Both) ⊎ (op ≡ Either) → 1 + a + b ≡ operator_size op i sizes
size_two op i sizes a b f g (inl k) = rw (k, g, f)
size_two op i sizes a b f g (inr k) = rw (k, g, f)

pub size_one : (op : Operator) (i : ℕ) (sizes : List ℕ) (a : ℕ) → a ≡ get_or sizes (i + 1) 0 → op ≡ Opposite → 1 + a ≡ operator_size op i sizes
size_one op i sizes a f k = rw (k, f)

pub size_told : (x : GuardRecord) (op : Operator) (i : ℕ) (sizes : List ℕ) (s : ℕ) → x ≡ IsOperator op → s ≡ operator_size op i sizes → s ≡ record_size x i sizes
size_told x op i sizes s e f = rw e f

-- the records from i to n are planned
pub record Planning (gs : List ℕ) (xs : List Child) (n : ℕ) (kinds sizes masks lows : List ℕ) (i : ℕ) : Type 0 where
  pub within : i ≤ n
  pub few : n ≤ 1024
  pub kinds_long : length kinds ≡ 1024
  pub sizes_long : length sizes ≡ 1024
  pub masks_long : length masks ≡ 1024
  pub lows_long : length lows ≡ 1024
  pub row : (j : ℕ) → i ≤ j → j < n → Row gs xs j (get_or kinds j 0) (get_or masks j 0) (get_or lows j 0) (get_or sizes j 0) sizes
  pub no_kind : (j : ℕ) → n ≤ j → get_or kinds j 0 ≡ 0
  pub no_mask : (j : ℕ) → n ≤ j → get_or masks j 0 ≡ 0
  pub no_low : (j : ℕ) → n ≤ j → get_or lows j 0 ≡ 0
  pub no_size : (j : ℕ) → n ≤ j → get_or sizes j 0 ≡ 0
  -- no guard reaches past the last record
  pub short : (j : ℕ) → i ≤ j → get_or sizes j 0 ≤ n - j

pub planning_start : (gs : List ℕ) (xs : List Child) (n : ℕ) → n ≡ length gs / 8 → length gs ≤ 8192
    → Planning gs xs n (replicate 1024 0) (replicate 1024 0) (replicate 1024 0) (replicate 1024 0) n
planning_start gs xs n e l =
    record {
      within = omega arith;
      few = omega arith;
      kinds_long = refl;
      sizes_long = refl;
      masks_long = refl;
      lows_long = refl;
      row = λ j a b. absurd (omega arith);
      no_kind = λ j a. get_or_zeros 1024 j;
      no_mask = λ j a. get_or_zeros 1024 j;
      no_low = λ j a. get_or_zeros 1024 j;
      no_size = λ j a. get_or_zeros 1024 j;
      short = λ j a. let z = get_or_zeros 1024 j in omega arith;
    }

module _ (gs : List ℕ) (xs : List Child) (n : ℕ) (kinds sizes masks lows : List ℕ) (i m : ℕ) (next : m ≡ i + 1) (P : Planning gs xs n kinds sizes masks lows m) where
  -- the guard of an operator is as long as its operands and itself
  operator_short : (op : Operator) → operator_size op i sizes ≤ n - i
  operator_short Both =
      let w = P.within in
      let a = P.short (i + 1) (omega arith) in
      let b = P.short (right_of i sizes) (omega arith) in
      omega arith
  operator_short Either =
      let w = P.within in
      let a = P.short (i + 1) (omega arith) in
      let b = P.short (right_of i sizes) (omega arith) in
      omega arith
  operator_short Opposite = let w = P.within in let a = P.short (i + 1) (omega arith) in omega arith

  pub record_short : (x : GuardRecord) → record_size x i sizes ≤ n - i
  record_short (Atom k p s) = let w = P.within in omega arith
  record_short (IsOperator op) = operator_short op
  record_short Unknown = let w = P.within in omega arith

  pub planning_more : (x : GuardRecord) (k v w s : ℕ) → record_as x ≡ guard_record gs i → s ≡ record_size x i sizes → v ≡ record_mask xs x → k ≡ record_number x → Lanes w (meets v)
      → Planning gs xs n (set kinds i k) (set sizes i s) (set masks i v) (set lows i w) i
  planning_more x k v w s ex es em ek ew =
      let a = P.within in
      let b = P.few in
      record {
        within = omega arith;
        few = P.few;
        kinds_long = length-set kinds i k ∙ P.kinds_long;
        sizes_long = length-set sizes i s ∙ P.sizes_long;
        masks_long = length-set masks i v ∙ P.masks_long;
        lows_long = length-set lows i w ∙ P.lows_long;
        row = λ j a b. at_row j a b (lt_or_le i j);
        no_kind = λ j a. behind kinds i k j (omega arith) ∙ P.no_kind j a;
        no_mask = λ j a. behind masks i v j (omega arith) ∙ P.no_mask j a;
        no_low = λ j a. behind lows i w j (omega arith) ∙ P.no_low j a;
        no_size = λ j a. behind sizes i s j (omega arith) ∙ P.no_size j a;
        short = λ j a. at_short j a (lt_or_le i j);
      }
    where
      here : (l : List ℕ) (y : ℕ) → length l ≡ 1024 → get_or (set l i y) i 0 ≡ y
      here l y e = get_or-set_same l i y 0 (let a = P.within in let b = P.few in omega arith)

      at_row : (j : ℕ) → i ≤ j → j < n → (i < j) ⊎ (j ≤ i) → Row gs xs j (get_or (set kinds i k) j 0) (get_or (set masks i v) j 0) (get_or (set lows i w) j 0) (get_or (set sizes i s) j 0) (set sizes i s)
      at_row j a b (inl u) =
          let R = P.row j (omega arith) b in
          record {
            read = R.read;
            is = R.is;
            number_is = behind kinds i k j u ∙ R.number_is;
            mask_is = behind masks i v j u ∙ R.mask_is;
            low_is = rw (behind lows i w j u, behind masks i v j u) R.low_is;
            size_is = behind sizes i s j u ∙ R.size_is ∙ sym (size_behind R.read i j s sizes a);
          }
      at_row j a b (inr u) =
          let z : j ≡ i = omega arith in
          rw z
          (record {
            read = x;
            is = ex;
            number_is = here kinds k P.kinds_long ∙ ek;
            mask_is = here masks v P.masks_long ∙ em;
            low_is = rw (here lows w P.lows_long, here masks v P.masks_long) ew;
            size_is = here sizes s P.sizes_long ∙ es ∙ sym (size_behind x i i s sizes (omega arith));
          })

      at_short : (j : ℕ) → i ≤ j → (i < j) ⊎ (j ≤ i) → get_or (set sizes i s) j 0 ≤ n - j
      at_short j a (inl u) = rw (behind sizes i s j u) (P.short j (omega arith))
      at_short j a (inr u) = let z : j ≡ i = omega arith in let y = record_short x in rw (z, here sizes s P.sizes_long, es) y

pub planning_end : (gs : List ℕ) (xs : List Child) (n : ℕ) (kinds sizes masks lows : List ℕ) (i : ℕ) → n ≡ length gs / 8 → Planning gs xs n kinds sizes masks lows i → i ≤ 0
    → Planned gs xs (record { kinds = kinds; sizes = sizes; masks = masks; lows = lows; count = n })
planning_end gs xs n kinds sizes masks lows i e P l =
    record {
      number = e;
      kinds_long = P.kinds_long;
      sizes_long = P.sizes_long;
      masks_long = P.masks_long;
      lows_long = P.lows_long;
      row = λ j b. P.row j (omega arith) b;
      no_kind = P.no_kind;
      no_mask = P.no_mask;
      no_low = P.no_low;
      no_size = P.no_size;
    }
