-- Whatever guard is read of guard records that keep their layout has right numbers, and no more operators on a path than its reader allows.
-- Assumes nothing.
use Prim.Native.Nat.{ℕ, zero, suc, ◌+◌, ◌*◌, ◌/◌, ◌<◌, ◌≤◌}
use native.Mathlib.Omega.{arith}
use mathlib.Core.Path.{◌≡◌, subst}
use mathlib.Core.Bool.{true, false, ◌&&◌, not}
use mathlib.Core.List.{List}
use mathlib.Core.Logic.{◌⊎◌, inl, inr}
use lib.Dec.{eqb, leb, ltb}
use lib.ListN.{length, drop}
use borrow.Author.Tests.{ltb-true, eqb-false, not-true}
use Rattle.model.specs.Words.{Bytes}
use Rattle.model.specs.Tree.{Kind, Guard, atom, both, either, opposite}
use Rattle.model.proofs.Words.{true_not_false, and_left, and_right, or_either, each_elim, choose_case}
use Rattle.records.specs.Bytes.{byte, u16, u32, record_at, in_eights}
use Rattle.records.specs.GuardRecords.{pattern_right, pattern_of, atom_right, record_right, Read, got, broken, Operator, two, one, Record, operator_of, atom_kind, record_of, guard_record, joined, shaped, guard_with, guard_at, guard_from}
use Rattle.records.proofs.Bytes.{u32_below, take_bytes, drop_bytes}
use Rattle.records.proofs.GuardLaws.{read_case}
use Rattle.bodies.specs.BodyRules.{records_right}
use Rattle.encoding.specs.Limits.{operators}
use Rattle.encoding.specs.Numbers.{PatternNumbers, GuardNumbers}

-- the guard's numbers are right where there are K child classes, and at most d operators lie on a path of it
abbrev pub Fits : ℕ → ℕ → Guard → Type 0
Fits K d g = GuardNumbers g K × (operators g ≤ d)

-- the same of the guard that was read, if one was
abbrev ReadFits : ℕ → ℕ → Read → Type 0
ReadFits K d (got g e) = Fits K d g
ReadFits K d broken = Unit {0}

-- a right pattern is a child class below K, or all children
pub pattern_numbers : (K p : ℕ) → pattern_right K p ≡ true → PatternNumbers (pattern_of p) K
pattern_numbers K p h = choose_case (λ x. PatternNumbers x K) (eqb p 255) _ _ (λ _. tt) (go (or_either (ltb p K) (eqb p 255) h))
  where
    go : (ltb p K ≡ true) ⊎ (eqb p 255 ≡ true) → eqb p 255 ≡ false → p < K
    go (inl l) n = ltb-true p K l
    go (inr e) n = absurd (true_not_false e n)

-- an atom's record that keeps its layout
atom_fits : (K d : ℕ) (r : List ℕ) (k : Kind) → Bytes r → atom_right K r ≡ true → Fits K d (atom k (pattern_of (byte r 1)) (u32 r 4))
unfolding operators
atom_fits K d r k h right =
    let set = not (eqb (u32 r 4) 0) in
    let some = eqb-false (u32 r 4) 0 (not-true (eqb (u32 r 4) 0) (and_right (eqb (u16 r 2) 0) set (and_right (pattern_right K (byte r 1)) (eqb (u16 r 2) 0 && set) right))) in
    let more : 0 < u32 r 4 = omega arith in
    ((pattern_numbers K (byte r 1) (and_left (pattern_right K (byte r 1)) (eqb (u16 r 2) 0 && set) right), more, u32_below r h 4), omega arith)

-- an operator puts one more on the path than its operands have
module _ (K d : ℕ) (operand : ℕ → Read) (fits : (j : ℕ) → ReadFits K d (operand j)) where
  two_fits : (f : Guard → Guard → Guard) → ((g h : Guard) → Fits K d g → Fits K d h → Fits K (suc d) (f g h)) → (a : ℕ) → ReadFits K (suc d) (joined operand a (two f))
  unfolding joined
  two_fits f h a =
      read_case (ReadFits K (suc d)) (operand a) _ _ (λ _. tt)
      (λ g j e. read_case (ReadFits K (suc d)) (operand j) _ _ (λ _. tt)
      (λ u k q. h g u (subst (ReadFits K d) e (fits a)) (subst (ReadFits K d) q (fits j))))

  one_fits : (f : Guard → Guard) → ((g : Guard) → Fits K d g → Fits K (suc d) (f g)) → (a : ℕ) → ReadFits K (suc d) (joined operand a (one f))
  unfolding joined
  one_fits f h a = read_case (ReadFits K (suc d)) (operand a) _ _ (λ _. tt) (λ g j e. h g (subst (ReadFits K d) e (fits a)))

  -- and, or, not
  operator_fits : (a k : ℕ) → ReadFits K (suc d) (joined operand a (operator_of k))
  unfolding operators
  operator_fits a k =
      let F : Operator → Type 0 = λ op. ReadFits K (suc d) (joined operand a op) in
      choose_case F (eqb k 4) _ _ (λ _. two_fits both (λ g h x y. ((x.0, y.0), omega (arith, x.1, y.1))) a)
      (λ _. choose_case F (eqb k 5) _ _ (λ _. two_fits either (λ g h x y. ((x.0, y.0), omega (arith, x.1, y.1))) a)
      (λ _. one_fits opposite (λ g x. (x.0, omega (arith, x.1))) a))

-- with no operator left on the path, none is read
none_fits : (K a : ℕ) (op : Operator) → ReadFits K 0 (joined (λ _. broken) a op)
unfolding joined
none_fits K a (two f) = tt
none_fits K a (one f) = tt

-- guard records that keep their layout
module _ (K : ℕ) (gs : List ℕ) (bytes : Bytes gs) (right : records_right K gs ≡ true) where
  -- the guard of a record, if its operands fit
  module _ (d : ℕ) (operand : ℕ → Read) (fits : (a k : ℕ) → ReadFits K d (joined operand a (operator_of k))) where
    record_fits : (i : ℕ) (r : List ℕ) → Bytes r → record_right K r ≡ true → ReadFits K d (shaped operand i (record_of r))
    unfolding record_of
    record_fits i r h layout =
        let F : Record → Type 0 = λ x. ReadFits K d (shaped operand i x) in
        choose_case F (leb (byte r 0) 3) _ _ (λ t. atom_fits K d r (atom_kind (byte r 0)) h (rw t at layout))
        (λ _. choose_case F (leb (byte r 0) 6) _ _ (λ _. fits (i + 1) (byte r 0)) (λ _. tt))

    with_fits : (i : ℕ) → ReadFits K d (guard_with operand gs i)
    unfolding guard_with guard_record records_right record_at
    with_fits i =
        choose_case (λ x. ReadFits K d (shaped operand i x)) (ltb i (length gs / 8)) _ _
        (λ t. record_fits i (record_at gs i) (take_bytes 8 (drop (i * 8) gs) (drop_bytes (i * 8) gs bytes)) (each_elim (in_eights gs) (λ i. record_right K (record_at gs i)) right i (ltb-true i (length gs / 8) t)))
        (λ _. tt)

  guard_fits : (d i : ℕ) → ReadFits K d (guard_at d gs i)
  unfolding guard_at
  guard_fits zero i = with_fits 0 (λ _. broken) (λ a k. none_fits K a (operator_of k)) i
  guard_fits (suc d) i = with_fits (suc d) (guard_at d gs) (operator_fits K d (guard_at d gs) (guard_fits d)) i

  -- so the guard of a clause
  pub from_fits : (i e : ℕ) (g : Guard) → guard_from gs i ≡ got g e → Fits K 16 g
  unfolding guard_from
  from_fits i e g h = subst (ReadFits K 16) h (guard_fits 16 i)
