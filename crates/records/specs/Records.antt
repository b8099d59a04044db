-- What the reader of a guard record answers, as the definitions have it.
-- Assumes nothing.
use Rattle.model.specs.Tree.{Kind as TreeKind, any_in, any_not_in, all_in, all_not_in, both, either, opposite}
use Rattle.records.specs.GuardRecords.{Operator as TreeOperator, two, one, Record, leaf, operator, unknown}
use Rattle.records.specs.Patterns.{pattern_as}
use Rattle.records.specs.declared.guards.Kind.{Kind}
use Rattle.records.specs.declared.guards.Kind.TheVariants.{AnyIn, AnyNotIn, AllIn, AllNotIn}
use Rattle.records.specs.declared.guards.Operator.{Operator}
use Rattle.records.specs.declared.guards.Operator.TheVariants.{Both, Either, Opposite}
use Rattle.records.specs.declared.guards.GuardRecord.{GuardRecord}
use Rattle.records.specs.declared.guards.GuardRecord.TheVariants.{Atom, Operator as IsOperator, Unknown}

-- the test that an atom makes
abbrev pub kind_as : Kind → TreeKind
kind_as AnyIn = any_in
kind_as AnyNotIn = any_not_in
kind_as AllIn = all_in
kind_as AllNotIn = all_not_in

-- and, or, not
abbrev pub operator_as : Operator → TreeOperator
operator_as Both = two both
operator_as Either = two either
operator_as Opposite = one opposite

-- an atom, an operator, or of no known kind
abbrev pub record_as : GuardRecord → Record
record_as (Atom kind p set) = leaf (kind_as kind) (pattern_as p) set
record_as (IsOperator op) = operator (operator_as op)
record_as Unknown = unknown
