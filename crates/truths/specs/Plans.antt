-- What is made of the guard records once a question.
-- Assumes nothing.
use Rattle.std.specs.Prelude.{ℕ, ◌+◌, ◌<◌, ◌≤◌, ◌/◌, ◌≡◌, List, length, get_or}
use Rattle.model.specs.Tree.{Child}
use Rattle.records.specs.GuardRecords.{guard_record}
use Rattle.records.specs.Patterns.{pattern_as}
use Rattle.records.specs.Records.{kind_as, record_as}
use Rattle.records.specs.declared.guards.Kind.{Kind}
use Rattle.records.specs.declared.guards.Kind.TheVariants.{AnyIn, AnyNotIn, AllIn, AllNotIn}
use Rattle.records.specs.declared.guards.Operator.{Operator}
use Rattle.records.specs.declared.guards.Operator.TheVariants.{Both, Either, Opposite}
use Rattle.records.specs.declared.guards.GuardRecord.{GuardRecord}
use Rattle.records.specs.declared.guards.GuardRecord.TheVariants.{Atom, Operator as IsOperator, Unknown}
use Rattle.lanes.specs.Lanes.{Lanes}
use Rattle.lanes.specs.Masks.{meets, atom_mask}
use Rattle.truths.specs.declared.plans.Plan.{Plan}

-- how the word of an atom is made: 0 where its mask is met, 1 where it is not
abbrev pub atom_number : Kind → ℕ
atom_number AnyIn = 0
atom_number AnyNotIn = 0
atom_number AllIn = 1
atom_number AllNotIn = 1

-- of an operator: 2 both operands, 3 either, 4 the opposite of one
abbrev pub operator_number : Operator → ℕ
operator_number Both = 2
operator_number Either = 3
operator_number Opposite = 4

-- of a record
abbrev pub record_number : GuardRecord → ℕ
record_number (Atom kind p set) = atom_number kind
record_number (IsOperator op) = operator_number op
record_number Unknown = 5

-- the mask of an atom over the cells; 0 of another record
abbrev pub record_mask : List Child → GuardRecord → ℕ
record_mask xs (Atom kind p set) = atom_mask (kind_as kind) (pattern_as p) set xs
record_mask xs (IsOperator op) = 0
record_mask xs Unknown = 0

-- where the right operand of an operator at record i begins: behind its left operand
abbrev pub right_of : ℕ → List ℕ → ℕ
right_of i sizes = i + 1 + get_or sizes (i + 1) 0

-- how many records the guard of an operator at record i has
abbrev pub operator_size : Operator → ℕ → List ℕ → ℕ
operator_size Both i sizes = 1 + get_or sizes (i + 1) 0 + get_or sizes (right_of i sizes) 0
operator_size Either i sizes = 1 + get_or sizes (i + 1) 0 + get_or sizes (right_of i sizes) 0
operator_size Opposite i sizes = 1 + get_or sizes (i + 1) 0

-- how many records the guard at record i has, from the sizes behind it
abbrev pub record_size : GuardRecord → ℕ → List ℕ → ℕ
record_size (Atom kind p set) i sizes = 1
record_size (IsOperator op) i sizes = operator_size op i sizes
record_size Unknown i sizes = 1

-- what is made of record i: number, mask, low word, size
pub record Row (gs : List ℕ) (xs : List Child) (i number mask low size : ℕ) (sizes : List ℕ) : Type 0 where
  pub read : GuardRecord
  pub is : record_as read ≡ guard_record gs i
  pub number_is : number ≡ record_number read
  pub mask_is : mask ≡ record_mask xs read
  pub low_is : Lanes low (meets mask)
  pub size_is : size ≡ record_size read i sizes

-- what is made of all records; behind them stand zeros
pub record Planned (gs : List ℕ) (xs : List Child) (r : Plan) : Type 0 where
  pub number : r.count ≡ length gs / 8
  pub kinds_long : length r.kinds ≡ 1024
  pub sizes_long : length r.sizes ≡ 1024
  pub masks_long : length r.masks ≡ 1024
  pub lows_long : length r.lows ≡ 1024
  pub row : (j : ℕ) → j < r.count → Row gs xs j (get_or r.kinds j 0) (get_or r.masks j 0) (get_or r.lows j 0) (get_or r.sizes j 0) r.sizes
  pub no_kind : (j : ℕ) → r.count ≤ j → get_or r.kinds j 0 ≡ 0
  pub no_mask : (j : ℕ) → r.count ≤ j → get_or r.masks j 0 ≡ 0
  pub no_low : (j : ℕ) → r.count ≤ j → get_or r.lows j 0 ≡ 0
  pub no_size : (j : ℕ) → r.count ≤ j → get_or r.sizes j 0 ≡ 0
