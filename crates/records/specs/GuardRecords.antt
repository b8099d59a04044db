-- Guard records: their layout, and the guard that begins at a record.
-- Assumes nothing.
use Rattle.std.specs.Prelude.{ℕ, zero, suc, ◌+◌, ◌/◌, Bool, true, false, ◌&&◌, ◌||◌, not, List, [], ◌∷◌, eqb, leb, ltb, length, get_or}
use Rattle.model.specs.Words.{choose}
use Rattle.model.specs.Tree.{Pattern, everyone, of_class, Kind, any_in, any_not_in, all_in, all_not_in, Guard, atom, both, either, opposite}
use Rattle.records.specs.Bytes.{byte, u16, u32, record_at}

-- a pattern is a child class below K, or 255 for all children
abbrev pub pattern_right : ℕ → ℕ → Bool
pattern_right K p = ltb p K || eqb p 255

abbrev pub pattern_of : ℕ → Pattern
pattern_of p = choose (eqb p 255) (λ _. everyone) (λ _. of_class p)

-- kinds 0 to 3: the pattern, two zero bytes, a name set that is not zero
abbrev pub atom_right : ℕ → List ℕ → Bool
atom_right K r = pattern_right K (byte r 1) && (eqb (u16 r 2) 0 && not (eqb (u32 r 4) 0))

-- kinds 4 to 6: bytes 1 to 7 are zero
abbrev pub operator_right : List ℕ → Bool
operator_right r = eqb (byte r 1) 0 && (eqb (u16 r 2) 0 && eqb (u32 r 4) 0)

-- the record keeps its layout
abbrev pub record_right : ℕ → List ℕ → Bool
record_right K r = choose (leb (byte r 0) 3) (λ _. atom_right K r) (λ _. choose (leb (byte r 0) 6) (λ _. operator_right r) (λ _. false))

-- a guard that was read with the number of the record after it, or none: it begins or runs past the end, or is too deep
pub data Read : Type 0 where
  got : Guard → ℕ → Read
  broken : Read

abbrev pub is_read : Read → Bool
is_read (got g e) = true
is_read broken = false

abbrev pub by_read {ℓ} : {A : Type ℓ} → Read → (Unit {0} → A) → (Guard → ℕ → A) → A
by_read broken a f = a tt
by_read (got g e) a f = f g e

-- an operator makes a guard of two guards or of one
pub data Operator : Type 0 where
  two : (Guard → Guard → Guard) → Operator
  one : (Guard → Guard) → Operator

-- what a guard record is: an atom, an operator, or of no known kind
pub data Record : Type 0 where
  leaf : Kind → Pattern → ℕ → Record
  operator : Operator → Record
  unknown : Record

-- kinds 0 to 3: ANY in, ANY not in, ALL in, ALL not in
abbrev pub atom_kind : ℕ → Kind
atom_kind k = get_or (any_in ∷ any_not_in ∷ all_in ∷ []) k all_not_in

-- kinds 4 to 6: and, or, not
abbrev pub operator_of : ℕ → Operator
operator_of k = choose (eqb k 4) (λ _. two both) (λ _. choose (eqb k 5) (λ _. two either) (λ _. one opposite))

-- what a record is, by its kind
unfoldable pub record_of : List ℕ → Record
record_of r =
    choose (leb (byte r 0) 3) (λ _. leaf (atom_kind (byte r 0)) (pattern_of (byte r 1)) (u32 r 4))
    (λ _. choose (leb (byte r 0) 6) (λ _. operator (operator_of (byte r 0))) (λ _. unknown))

-- what record i is; unknown past the end
unfoldable pub guard_record : List ℕ → ℕ → Record
guard_record gs i = choose (ltb i (length gs / 8)) (λ _. record_of (record_at gs i)) (λ _. unknown)

-- the guard of an operator, whose operands begin at record i, left before right, and are read by `operand`
unfoldable pub joined : (ℕ → Read) → ℕ → Operator → Read
joined operand i (two op) = by_read (operand i) (λ _. broken) (λ g j. by_read (operand j) (λ _. broken) (λ h k. got (op g h) k))
joined operand i (one op) = by_read (operand i) (λ _. broken) (λ g j. got (op g) j)

-- the guard of a record at place i; an operator's operands follow it directly
abbrev pub shaped : (ℕ → Read) → ℕ → Record → Read
shaped operand i (leaf kind p set) = got (atom kind p set) (i + 1)
shaped operand i (operator op) = joined operand (i + 1) op
shaped operand i unknown = broken

-- the guard that begins at record i, whose operands are read by `operand`
unfoldable pub guard_with : (ℕ → Read) → List ℕ → ℕ → Read
guard_with operand gs i = shaped operand i (guard_record gs i)

-- the guard that begins at record i, with at most d operators on a path
unfoldable pub guard_at : ℕ → List ℕ → ℕ → Read
guard_at zero gs i = guard_with (λ j. broken) gs i
guard_at (suc d) gs i = guard_with (guard_at d gs) gs i

-- the reader of the operands of an operator, where d operators were left on the path before it
unfoldable pub operands : ℕ → List ℕ → ℕ → Read
operands zero gs i = broken
operands (suc d) gs i = guard_at d gs i

-- at most 16 operators lie on one path
unfoldable pub guard_from : List ℕ → ℕ → Read
guard_from gs i = guard_at 16 gs i
