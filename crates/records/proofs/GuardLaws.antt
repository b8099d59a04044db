-- Laws about specs/GuardRecords.antt, one for each way that the readers of guard records and of guards go.
-- Assumes nothing.
use Prim.Native.Nat.{ℕ, zero, suc, ◌+◌, ◌-◌, ◌/◌, ◌<◌, ◌≤◌}
use native.Mathlib.Omega.{arith}
use native.Mathlib.Numerals.{sub-one}
use mathlib.Core.Path.{◌≡◌, refl, sym, ◌∙◌, ap, subst}
use mathlib.Core.Bool.{Bool, true, false}
use mathlib.Core.Logic.{◌⊎◌, inl, inr}
use mathlib.Core.List.{List}
use denote.Enum.Declared.{tag_of}
use lib.ListN.{length}
use borrow.Author.Tests.{lt-ltb, le-ltb}
use Rattle.std.specs.Prelude.{Some, None}
use Rattle.std.specs.Option.{is_some}
use Rattle.model.specs.Tree.{Guard, both, either}
use Rattle.model.proofs.Words.{clash, true_not_false, lt_or_le}
use Rattle.records.specs.Bytes.{record_at}
use Rattle.records.specs.GuardRecords.{Read, got, broken, by_read, is_read, Operator, two, one, Record, leaf, operator, unknown, record_of, guard_record, joined, shaped, guard_with, guard_at, operands, guard_from}
use Rattle.records.specs.Records.{operator_as}
use Rattle.records.specs.Ends.{end_of}
use Rattle.records.specs.declared.guards.Operator.{Operator as ReadOperator}
use Rattle.records.specs.declared.guards.Operator.TheVariants.{Both, Either, Opposite}
use Rattle.records.specs.contracts.guards.Operator.{the_type}

-- what holds where no guard was read, and where one was, holds of what is made of either
pub read_case {ℓ κ} : {A : Type ℓ} (P : A → Type κ) (r : Read) (x : Unit {0} → A) (f : Guard → ℕ → A)
    → (r ≡ broken → P (x tt)) → ((g : Guard) (e : ℕ) → r ≡ got g e → P (f g e)) → P (by_read r x f)
read_case P broken x f p q = p refl
read_case P (got g e) x f p q = q g e refl

-- a guard record stands past the end, or is what its bytes say
pub record_past : (gs : List ℕ) (i : ℕ) → length gs / 8 ≤ i → unknown ≡ guard_record gs i
unfolding guard_record
record_past gs i h = rw (le-ltb i (length gs / 8) h)

pub record_there : (gs : List ℕ) (i : ℕ) → i < length gs / 8 → {x : Record} {r : List ℕ} → x ≡ record_of r → r ≡ record_at gs i → x ≡ guard_record gs i
unfolding guard_record
record_there gs i h e q = rw (lt-ltb i (length gs / 8) h, ← q) e

-- a record that is known stands there
abbrev pub known : Record → Bool
known (leaf kind p set) = true
known (operator op) = true
known unknown = false

pub known_there : (gs : List ℕ) (i : ℕ) {x : Record} → x ≡ guard_record gs i → known x ≡ true → i < length gs / 8
known_there gs i {x} e k = go (lt_or_le i (length gs / 8))
  where
    go : (i < length gs / 8) ⊎ (length gs / 8 ≤ i) → i < length gs / 8
    go (inl l) = l
    go (inr h) = absurd (true_not_false k (ap known (e ∙ sym (record_past gs i h))))

-- a guard is what its first record makes of it
pub read_as : (d : ℕ) (gs : List ℕ) (i : ℕ) {x : Record} → x ≡ guard_record gs i → guard_at d gs i ≡ shaped (operands d gs) i x
unfolding guard_at guard_with operands
read_as zero gs i e = rw e
read_as (suc d) gs i e = rw e

-- an operator's guard, for each way that its operands are read: none with no operator left on the path
module _ (d : ℕ) (gs : List ℕ) (i : ℕ) where
  pub joined_deep : d ≡ 0 → (op : Operator) → joined (operands d gs) i op ≡ broken
  unfolding joined operands
  joined_deep z (two f) = rw z
  joined_deep z (one f) = rw z

  module _ (n : d ≡ 0 → ⊥) where
    -- else with one less
    less : (j : ℕ) → operands d gs j ≡ guard_at (d - 1) gs j
    unfolding operands
    less j = go d n
      where
        go : (m : ℕ) → (m ≡ 0 → ⊥) → operands m gs j ≡ guard_at (m - 1) gs j
        go zero z = absurd (z refl)
        go (suc m) z = ap (λ (k : ℕ). guard_at k gs j) (sym (sub-one (suc m)))

    pub joined_first : guard_at (d - 1) gs i ≡ broken → (op : Operator) → joined (operands d gs) i op ≡ broken
    unfolding joined
    joined_first h (two f) = rw (less i, h)
    joined_first h (one f) = rw (less i, h)

    module _ {g : Guard} {j : ℕ} (h : guard_at (d - 1) gs i ≡ got g j) where
      pub joined_one : (f : Guard → Guard) → joined (operands d gs) i (one f) ≡ got (f g) j
      unfolding joined
      joined_one f = rw (less i, h)

      pub joined_second : (f : Guard → Guard → Guard) → guard_at (d - 1) gs j ≡ broken → joined (operands d gs) i (two f) ≡ broken
      unfolding joined
      joined_second f b = rw (less i, h, less j, b)

      pub joined_two : (f : Guard → Guard → Guard) {u : Guard} {k : ℕ} → guard_at (d - 1) gs j ≡ got u k → joined (operands d gs) i (two f) ≡ got (f g u) k
      unfolding joined
      joined_two f b = rw (less i, h, less j, b)

      -- a guard of two operands ends where the second does
      pub joined_end : (f : Guard → Guard → Guard) → end_of (joined (operands d gs) i (two f)) ≡ end_of (guard_at (d - 1) gs j)
      joined_end f = go (guard_at (d - 1) gs j) refl
        where
          go : (o : Read) → guard_at (d - 1) gs j ≡ o → end_of (joined (operands d gs) i (two f)) ≡ end_of o
          go (got u k) b = ap end_of (joined_two f b)
          go broken b = ap end_of (joined_second f b)

-- an operator that is not the opposite has two operands
pub on_two : (op : ReadOperator) → (tag_of the_type op ≡ 0) ⊎ (tag_of the_type op ≡ 1) → (f : Guard → Guard → Guard) × (operator_as op ≡ two f)
on_two Both k = (both, refl)
on_two Either k = (either, refl)
on_two Opposite (inl k) = absurd (omega arith)
on_two Opposite (inr k) = absurd (omega arith)

-- and is either if it is not both
pub on_either : (op : ReadOperator) → (tag_of the_type op ≡ 0) ⊎ (tag_of the_type op ≡ 1) → (tag_of the_type op ≡ 1) ⊎ (tag_of the_type op ≡ 2) → operator_as op ≡ two either
on_either Both k (inl l) = absurd (omega arith)
on_either Both k (inr l) = absurd (omega arith)
on_either Either k l = refl
on_either Opposite (inl k) l = absurd (omega arith)
on_either Opposite (inr k) l = absurd (omega arith)

-- what is read ends behind where it begins
abbrev Behind : ℕ → Read → Type 0
Behind i (got g e) = i < e
Behind i broken = Unit {0}

joined_behind : (operand : ℕ → Read) → ((j : ℕ) → Behind j (operand j)) → (i a : ℕ) → i ≤ a → (op : Operator) → Behind i (joined operand a op)
unfolding joined
joined_behind operand b i a l (two f) =
    read_case (Behind i) (operand a) _ _ (λ _. tt)
    (λ g j h. read_case (Behind i) (operand j) _ _ (λ _. tt)
    (λ u k q. let m : a < j = subst (Behind a) h (b a) in let n : j < k = subst (Behind j) q (b j) in omega arith))
joined_behind operand b i a l (one f) = read_case (Behind i) (operand a) _ _ (λ _. tt) (λ g j h. let m : a < j = subst (Behind a) h (b a) in omega arith)

shaped_behind : (operand : ℕ → Read) → ((j : ℕ) → Behind j (operand j)) → (i : ℕ) (x : Record) → Behind i (shaped operand i x)
shaped_behind operand b i (leaf kind p set) = omega arith
shaped_behind operand b i (operator op) = joined_behind operand b i (i + 1) (omega arith) op
shaped_behind operand b i unknown = tt

guard_behind : (d : ℕ) (gs : List ℕ) (i : ℕ) → Behind i (guard_at d gs i)
unfolding guard_at guard_with
guard_behind zero gs i = shaped_behind (λ j. broken) (λ j. tt) i (guard_record gs i)
guard_behind (suc d) gs i = shaped_behind (guard_at d gs) (guard_behind d gs) i (guard_record gs i)

pub read_behind : (d : ℕ) (gs : List ℕ) (i : ℕ) {g : Guard} {e : ℕ} → guard_at d gs i ≡ got g e → i < e
read_behind d gs i h = subst (Behind i) h (guard_behind d gs i)

-- back from an end to what was read
got_back : (o : Read) (e : ℕ) → end_of o ≡ Some e → (g : Guard) × (o ≡ got g e)
got_back (got g j) e h = (g, ap (got g) (cc))
got_back broken e h = absurd (clash (cc))

broken_back : (o : Read) → end_of o ≡ None → o ≡ broken
broken_back (got g j) h = absurd (clash (cc))
broken_back broken h = refl

module _ (d : ℕ) (gs : List ℕ) (i : ℕ) where
  pub end_got : (e : ℕ) → end_of (guard_at d gs i) ≡ Some e → (g : Guard) × (guard_at d gs i ≡ got g e)
  end_got e h = got_back (guard_at d gs i) e h

  pub end_broken : end_of (guard_at d gs i) ≡ None → guard_at d gs i ≡ broken
  end_broken h = broken_back (guard_at d gs i) h

-- a guard reads exactly if it has an end
pub ends_read : (gs : List ℕ) (i : ℕ) → is_some (end_of (guard_at 16 gs i)) ≡ is_read (guard_from gs i)
unfolding guard_from
ends_read gs i = go (guard_at 16 gs i)
  where
    go : (o : Read) → is_some (end_of o) ≡ is_read o
    go (got g e) = refl
    go broken = refl
