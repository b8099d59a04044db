-- Laws about specs/Values.antt, one for each way that the evaluator goes.
-- Assumes nothing.
use Prim.Native.Nat.{ℕ, ◌+◌, ◌-◌, ◌^◌, ◌<◌}
use mathlib.Core.Path.{◌≡◌, refl, ◌∙◌, ap, fun_ext}
use mathlib.Core.Bool.{Bool, false, ◌&&◌, ◌||◌, not}
use mathlib.Core.List.{List}
use lib.Bits.{bit_and}
use lib.Dec.{eqb}
use Rattle.std.specs.Prelude.{Some, None}
use Rattle.std.proofs.lemmas.Option.{some_pair_parts}
use Rattle.model.specs.Words.{has, each, some_below}
use Rattle.model.specs.Tree.{Pattern, Kind, any_in, any_not_in, all_in, all_not_in, Guard, both, either, opposite}
use Rattle.model.proofs.Words.{clash}
use Rattle.records.specs.GuardRecords.{Read, got, broken, Operator, two, one, Record, leaf, guard_record, joined, shaped, guard_at, operands, guard_from}
use Rattle.records.proofs.GuardLaws.{read_as, joined_deep, joined_first, joined_one, joined_second, joined_two, read_behind}
use Rattle.records.specs.Records.{operator_as}
use Rattle.records.specs.declared.guards.Operator.{Operator as ReadOperator}
use Rattle.records.specs.declared.guards.Operator.TheVariants.{Both, Either, Opposite}
use Rattle.node.specs.Sets.{atom_in, holds_in}
use Rattle.children.specs.NameSets.{Names}
use Rattle.node.specs.Values.{value_of, truth_of}
use Rattle.model.proofs.Masks.{some_met, some_not_met, all_met, all_not_met}

-- an atom by mask: the names occupied in the pattern, met with the set
module _ (sets : List ℕ) (k : Kind) (p : Pattern) (set occ : ℕ) (small : occ < 2 ^ 32) (names : Names sets p occ) where
  pub any_met : k ≡ any_in → not (eqb (bit_and occ set) 0) ≡ atom_in sets k p set
  unfolding atom_in
  any_met z = rw z (some_met 32 occ set small ∙ ap (some_below 32) (fun_ext λ n. ap (λ (b : Bool). b && has set n) (names n)))

  pub any_left : k ≡ any_not_in → not (eqb (bit_and occ set) occ) ≡ atom_in sets k p set
  unfolding atom_in
  any_left z = rw z (some_not_met 32 occ set small ∙ ap (some_below 32) (fun_ext λ n. ap (λ (b : Bool). b && not (has set n)) (names n)))

  pub none_left : k ≡ all_in → eqb (bit_and occ set) occ ≡ atom_in sets k p set
  unfolding atom_in
  none_left z = rw z (all_met 32 occ set small ∙ ap (each 32) (fun_ext λ n. ap (λ (b : Bool). not b || has set n) (names n)))

  pub none_met : k ≡ all_not_in → eqb (bit_and occ set) 0 ≡ atom_in sets k p set
  unfolding atom_in
  none_met z = rw z (all_not_met 32 occ set small ∙ ap (each 32) (fun_ext λ n. ap (λ (b : Bool). not b || not (has set n)) (names n)))

-- back from a value to what was read
got_back : (sets : List ℕ) (o : Read) (x : Bool) (e : ℕ) → value_of sets o ≡ Some (x, e) → (g : Guard) × (o ≡ got g e) × (holds_in sets g ≡ x)
got_back sets (got g j) x e h = let (a, b) = some_pair_parts (holds_in sets g) x j e h in (g, ap (got g) b, a)
got_back sets broken x e h = absurd (clash (cc))

broken_back : (sets : List ℕ) (o : Read) → value_of sets o ≡ None → o ≡ broken
broken_back sets (got g j) h = absurd (clash (cc))
broken_back sets broken h = refl

module _ (sets : List ℕ) (d : ℕ) (gs : List ℕ) (i : ℕ) where
  pub value_got : (x : Bool) (e : ℕ) → value_of sets (guard_at d gs i) ≡ Some (x, e) → (g : Guard) × (guard_at d gs i ≡ got g e) × (holds_in sets g ≡ x)
  value_got x e h = got_back sets (guard_at d gs i) x e h

  pub value_broken : value_of sets (guard_at d gs i) ≡ None → guard_at d gs i ≡ broken
  value_broken h = broken_back sets (guard_at d gs i) h

  -- a guard that holds or not ends behind where it begins
  pub value_behind : (x : Bool) (e : ℕ) → value_of sets (guard_at d gs i) ≡ Some (x, e) → i < e
  value_behind x e h = let (g, p, a) = value_got x e h in read_behind d gs i p

  -- its value goes by its first record
  pub value_as : {r : Record} → r ≡ guard_record gs i → value_of sets (guard_at d gs i) ≡ value_of sets (shaped (operands d gs) i r)
  value_as e = ap (value_of sets) (read_as d gs i e)

  pub value_atom : {kind : Kind} {p : Pattern} {set : ℕ} → leaf kind p set ≡ guard_record gs i → (x : Bool) → x ≡ atom_in sets kind p set → value_of sets (guard_at d gs i) ≡ Some (x, i + 1)
  unfolding holds_in
  value_atom e x h = value_as e ∙ rw h

-- an operator's value, for each way that its operands are read
module _ (sets : List ℕ) (d : ℕ) (gs : List ℕ) (i : ℕ) (op : Operator) where
  -- no operator is left on the path
  pub value_deep : d ≡ 0 → value_of sets (joined (operands d gs) i op) ≡ None
  value_deep z = ap (value_of sets) (joined_deep d gs i z op)

  module _ (n : d ≡ 0 → ⊥) where
    -- the first operand is broken
    pub value_first : value_of sets (guard_at (d - 1) gs i) ≡ None → value_of sets (joined (operands d gs) i op) ≡ None
    value_first f = ap (value_of sets) (joined_first d gs i n (value_broken sets (d - 1) gs i f) op)

    -- it holds or not, and ends at j
    module _ (x : Bool) (j : ℕ) (f : value_of sets (guard_at (d - 1) gs i) ≡ Some (x, j)) where
      pub value_one : op ≡ one opposite → value_of sets (joined (operands d gs) i op) ≡ Some (not x, j)
      unfolding holds_in
      value_one o =
          let (g, p, a) = value_got sets (d - 1) gs i x j f in
          rw (o, joined_one d gs i n p opposite, a)

      -- the second is broken
      pub value_second : (h : Guard → Guard → Guard) → op ≡ two h → value_of sets (guard_at (d - 1) gs j) ≡ None → value_of sets (joined (operands d gs) i op) ≡ None
      value_second h o u =
          let (g, p, a) = value_got sets (d - 1) gs i x j f in
          rw (o, joined_second d gs i n p h (value_broken sets (d - 1) gs j u))

      -- it holds or not, and ends at e
      module _ (y : Bool) (e : ℕ) (u : value_of sets (guard_at (d - 1) gs j) ≡ Some (y, e)) where
        pub value_both : op ≡ two both → value_of sets (joined (operands d gs) i op) ≡ Some (x && y, e)
        unfolding holds_in
        value_both o =
            let (g, p, a) = value_got sets (d - 1) gs i x j f in
            let (h, q, b) = value_got sets (d - 1) gs j y e u in
            rw (o, joined_two d gs i n p both q, a, b)

        pub value_either : op ≡ two either → value_of sets (joined (operands d gs) i op) ≡ Some (x || y, e)
        unfolding holds_in
        value_either o =
            let (g, p, a) = value_got sets (d - 1) gs i x j f in
            let (h, q, b) = value_got sets (d - 1) gs j y e u in
            rw (o, joined_two d gs i n p either q, a, b)

-- an operator that is not the opposite has two operands, and is either if it is not both
pub not_one : (op : ReadOperator) → (op ≡ Opposite → ⊥) → (f : Guard → Guard → Guard) × (operator_as op ≡ two f)
not_one Both k = (both, refl)
not_one Either k = (either, refl)
not_one Opposite k = absurd (k refl)

pub the_either : (op : ReadOperator) → (op ≡ Opposite → ⊥) → (op ≡ Both → ⊥) → operator_as op ≡ two either
the_either Both k l = absurd (l refl)
the_either Either k l = refl
the_either Opposite k l = absurd (k refl)

-- the truth of a value
pub truth_holds : (sets gs : List ℕ) (i : ℕ) (x : Bool) (e : ℕ) → value_of sets (guard_at 16 gs i) ≡ Some (x, e) → truth_of sets (guard_from gs i) ≡ x
unfolding truth_of guard_from
truth_holds sets gs i x e h = let (g, p, a) = value_got sets 16 gs i x e h in rw (p, a)

pub truth_broken : (sets gs : List ℕ) (i : ℕ) → value_of sets (guard_at 16 gs i) ≡ None → truth_of sets (guard_from gs i) ≡ false
unfolding truth_of guard_from
truth_broken sets gs i h = rw (value_broken sets 16 gs i h)
