-- What the record is decides; an operator's operands are read one behind the other, each with one operator less left on the path.
-- Assumes nothing.
use native.Mathlib.Omega.{arith}
use mathlib.Core.Path.{refl, sym, ◌∙◌, ap}
use Rattle.model.specs.Tree.{opposite}
use Rattle.records.specs.GuardRecords.{operator}
use Rattle.records.specs.Records.{operator_as, record_as}
use Rattle.records.specs.Ends.{end_of}
use Rattle.records.proofs.GuardLaws.{known_there, read_as, joined_deep, joined_first, joined_one, joined_end, on_two, end_got, end_broken}
use borrow.Enum.Refused.{opened}
use Rattle.records.proofs.guards.+guard_end.Goals as goal

pub overflow_add-result : goal.overflow_add-result
overflow_add-result t c = let l = known_there _ _ (ap record_as (sym c.in-Atom.is) ∙ c.guard_record-record.ensures) refl in omega (arith, l)

pub overflow_add-from : goal.overflow_add-from
overflow_add-from t c = let l = known_there _ _ (ap record_as (sym c.in-Operator.is) ∙ c.guard_record-record.ensures) refl in omega (arith, l)

pub returns-then-depth-eq0 : goal.returns-then-depth-eq0
returns-then-depth-eq0 t c = sym (ap end_of (read_as _ _ _ (ap record_as (sym c.in-Operator.is) ∙ c.guard_record-record.ensures) ∙ joined_deep _ _ _ c.if-depth-eq0.true _))

pub returns-in_err-next-in-Operator : goal.returns-in_err-next-in-Operator
returns-in_err-next-in-Operator t c =
    let first_broken = end_broken _ _ _ (sym c.guard_end.ensures ∙ c.in_err-next-in-Operator.was) in
    rw c.from_residual.ensures (sym (ap end_of (read_as _ _ _ (ap record_as (sym c.in-Operator.is) ∙ c.guard_record-record.ensures) ∙ joined_first _ _ _ c.if-depth-eq0.false first_broken _)))

pub returns-in-Atom : goal.returns-in-Atom
returns-in-Atom t c = sym (ap end_of (read_as _ _ _ (ap record_as (sym c.in-Atom.is) ∙ c.guard_record-record.ensures)))

pub returns-in-Both : goal.returns-in-Both
returns-in-Both t c =
    let (g, p) = end_got _ _ _ _ (sym c.guard_end.ensures ∙ c.in_ok-next-in-Operator.was) in
    let (op, q) = on_two c.in-Operator.operator (opened c.in-Both.in-Both-own.keys1) in
    c.guard_end-in-Both.ensures ∙ sym (ap end_of (read_as _ _ _ (ap operator (sym q) ∙ (ap record_as (sym c.in-Operator.is) ∙ c.guard_record-record.ensures))) ∙ joined_end _ _ _ c.if-depth-eq0.false p op)

pub returns-in-Opposite : goal.returns-in-Opposite
returns-in-Opposite t c =
    let (g, p) = end_got _ _ _ _ (sym c.guard_end.ensures ∙ c.in_ok-next-in-Operator.was) in
    let q = ap operator_as c.in-Opposite.is in
    sym (ap end_of (read_as _ _ _ (ap operator (sym q) ∙ (ap record_as (sym c.in-Operator.is) ∙ c.guard_record-record.ensures)) ∙ joined_one _ _ _ c.if-depth-eq0.false p opposite))

pub returns-in-Unknown : goal.returns-in-Unknown
returns-in-Unknown t c = sym (ap end_of (read_as _ _ _ (ap record_as (sym c.in-Unknown.is) ∙ c.guard_record-record.ensures)))
