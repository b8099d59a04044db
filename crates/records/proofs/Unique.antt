-- What the readers of patterns and of guard records answer is told apart by how the definitions have it.
-- Assumes nothing.
use mathlib.Core.Path.{◌≡◌, refl, ap}
use Rattle.model.specs.Tree.{everyone, any_in, Guard, atom}
use Rattle.model.proofs.Words.{clash}
use Rattle.records.specs.GuardRecords.{Operator as TreeOperator, two, one}
use Rattle.records.specs.Patterns.{pattern_as}
use Rattle.records.specs.Records.{kind_as, operator_as, record_as}
use Rattle.records.specs.Unique.{Unique}
use Rattle.records.specs.declared.kinds.Pattern.{Pattern}
use Rattle.records.specs.declared.kinds.Pattern.TheVariants.{Everyone, OfClass}
use Rattle.records.specs.declared.guards.Kind.{Kind}
use Rattle.records.specs.declared.guards.Kind.TheVariants.{AnyIn, AnyNotIn, AllIn, AllNotIn}
use Rattle.records.specs.declared.guards.Operator.{Operator}
use Rattle.records.specs.declared.guards.Operator.TheVariants.{Both, Either, Opposite}
use Rattle.records.specs.declared.guards.GuardRecord.{GuardRecord}
use Rattle.records.specs.declared.guards.GuardRecord.TheVariants.{Atom, Operator as IsOperator, Unknown}

same_pattern : (p q : Pattern) → pattern_as p ≡ pattern_as q → p ≡ q
same_pattern Everyone Everyone e = refl
same_pattern Everyone (OfClass j) e = absurd (clash (cc))
same_pattern (OfClass i) Everyone e = absurd (clash (cc))
same_pattern (OfClass i) (OfClass j) e = let z : i.0 ≡ j.0 = cc in ap OfClass (λ d. record { 0 = z d })

same_kind : (k l : Kind) → kind_as k ≡ kind_as l → k ≡ l
same_kind AnyIn AnyIn e = refl
same_kind AnyIn AnyNotIn e = absurd (clash (cc))
same_kind AnyIn AllIn e = absurd (clash (cc))
same_kind AnyIn AllNotIn e = absurd (clash (cc))
same_kind AnyNotIn AnyIn e = absurd (clash (cc))
same_kind AnyNotIn AnyNotIn e = refl
same_kind AnyNotIn AllIn e = absurd (clash (cc))
same_kind AnyNotIn AllNotIn e = absurd (clash (cc))
same_kind AllIn AnyIn e = absurd (clash (cc))
same_kind AllIn AnyNotIn e = absurd (clash (cc))
same_kind AllIn AllIn e = refl
same_kind AllIn AllNotIn e = absurd (clash (cc))
same_kind AllNotIn AnyIn e = absurd (clash (cc))
same_kind AllNotIn AnyNotIn e = absurd (clash (cc))
same_kind AllNotIn AllIn e = absurd (clash (cc))
same_kind AllNotIn AllNotIn e = refl

-- operators are told apart by the guard that each makes of one atom
made : TreeOperator → Guard
made (two f) = f (atom any_in everyone 0) (atom any_in everyone 0)
made (one f) = f (atom any_in everyone 0)

same_operator : (o p : Operator) → operator_as o ≡ operator_as p → o ≡ p
unfolding made
same_operator Both Both e = refl
same_operator Both Either e = absurd (clash (cc (ap made e)))
same_operator Both Opposite e = absurd (clash (cc (ap made e)))
same_operator Either Both e = absurd (clash (cc (ap made e)))
same_operator Either Either e = refl
same_operator Either Opposite e = absurd (clash (cc (ap made e)))
same_operator Opposite Both e = absurd (clash (cc (ap made e)))
same_operator Opposite Either e = absurd (clash (cc (ap made e)))
same_operator Opposite Opposite e = refl

same_record : (r s : GuardRecord) → record_as r ≡ record_as s → r ≡ s
same_record (Atom k p x) (Atom l q y) e =
    let z : x ≡ y = cc in
    λ d. Atom (same_kind k l (cc) d) (same_pattern p q (cc) d) (z d)
same_record (Atom k p x) (IsOperator o) e = absurd (clash (cc))
same_record (Atom k p x) Unknown e = absurd (clash (cc))
same_record (IsOperator o) (Atom l q y) e = absurd (clash (cc))
same_record (IsOperator o) (IsOperator p) e = ap IsOperator (same_operator o p (cc))
same_record (IsOperator o) Unknown e = absurd (clash (cc))
same_record Unknown (Atom l q y) e = absurd (clash (cc))
same_record Unknown (IsOperator o) e = absurd (clash (cc))
same_record Unknown Unknown e = refl

pub unique : Unique
unique = record { patterns = same_pattern; kinds = same_kind; operators = same_operator; guard_records = same_record }
