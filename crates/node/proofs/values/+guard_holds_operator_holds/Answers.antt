-- `guard_holds` and `operator_holds` answer the value of the guard that the rules read: a law for each way out. The records left fall from a
-- guard to its operands, the operators left on the path from an operator to each operand.
-- Assumes nothing.
use native.Mathlib.Omega.{arith}
use mathlib.Core.Path.{refl, sym, ◌∙◌, ap}
use Rattle.records.specs.Records.{operator_as, record_as}
use Rattle.records.proofs.GuardLaws.{known_there}
use Rattle.node.proofs.ValueLaws.{value_behind, value_as, value_atom, value_deep, value_first, value_one, value_second, value_both, value_either, not_one, the_either}
use Rattle.node.proofs.values.+guard_holds_operator_holds.Goals as goal

-- an atom's end, and where an operator's operands begin, are numbers
pub guard_holds-overflow_add-result : goal.guard_holds-overflow_add-result
guard_holds-overflow_add-result t c =
    let l = known_there _ _ (ap record_as (sym c.in-Atom.is) ∙ c.guard_record-record.ensures) refl in
    omega (arith, l)

pub guard_holds-overflow_add-from : goal.guard_holds-overflow_add-from
guard_holds-overflow_add-from t c =
    let l = known_there _ _ (ap record_as (sym c.in-Operator.is) ∙ c.guard_record-record.ensures) refl in
    omega (arith, l)

-- the operands leave fewer records
pub guard_holds-operator_holds-requires : goal.guard_holds-operator_holds-requires
guard_holds-operator_holds-requires t c =
    let l = known_there _ _ (ap record_as (sym c.in-Operator.is) ∙ c.guard_record-record.ensures) refl in
    omega (arith, l)

pub guard_holds-returns-in-Atom : goal.guard_holds-returns-in-Atom
guard_holds-returns-in-Atom t c = sym (value_atom _ _ _ _ (ap record_as (sym c.in-Atom.is) ∙ c.guard_record-record.ensures) _ c.atom_holds.ensures)

pub guard_holds-returns-in-Operator : goal.guard_holds-returns-in-Operator
guard_holds-returns-in-Operator t c = c.operator_holds.ensures ∙ sym (value_as _ _ _ _ (ap record_as (sym c.in-Operator.is) ∙ c.guard_record-record.ensures))

pub guard_holds-returns-in-Unknown : goal.guard_holds-returns-in-Unknown
guard_holds-returns-in-Unknown t c = sym (value_as _ _ _ _ (ap record_as (sym c.in-Unknown.is) ∙ c.guard_record-record.ensures))

pub operator_holds-returns-then-depth-eq0 : goal.operator_holds-returns-then-depth-eq0
operator_holds-returns-then-depth-eq0 t c = sym (value_deep _ _ _ _ _ c.if-depth-eq0.true)

pub operator_holds-returns-in_err-left : goal.operator_holds-returns-in_err-left
operator_holds-returns-in_err-left t c = rw c.from_residual.ensures (sym (value_first _ _ _ _ _ c.if-depth-eq0.false (sym c.guard_holds.ensures ∙ c.in_err-left.was)))

pub operator_holds-returns-in-Opposite : goal.operator_holds-returns-in-Opposite
operator_holds-returns-in-Opposite t c = sym (value_one _ _ _ _ _ c.if-depth-eq0.false _ _ (sym c.guard_holds.ensures ∙ c.in_ok-left.was) (ap operator_as c.in-Opposite.is))

-- the second operand begins behind where the first does
pub operator_holds-guard_holds-requires-2 : goal.operator_holds-guard_holds-requires-2
operator_holds-guard_holds-requires-2 t c = let l = value_behind _ _ _ _ _ _ (sym c.guard_holds.ensures ∙ c.in_ok-left.was) in omega (arith, l)

pub operator_holds-returns-in_err-right : goal.operator_holds-returns-in_err-right
operator_holds-returns-in_err-right t c =
    let (h, q) = not_one c.args.operator c.in_default.not-Opposite in
    rw c.from_residual-in_err-right.ensures (sym (value_second _ _ _ _ _ c.if-depth-eq0.false _ _ (sym c.guard_holds.ensures ∙ c.in_ok-left.was) h q (sym c.guard_holds-2.ensures ∙ c.in_err-right.was)))

pub operator_holds-returns-in-Both : goal.operator_holds-returns-in-Both
operator_holds-returns-in-Both t c = sym (value_both _ _ _ _ _ c.if-depth-eq0.false _ _ (sym c.guard_holds.ensures ∙ c.in_ok-left.was) _ _ (sym c.guard_holds-2.ensures ∙ c.in_ok-right.was) (ap operator_as c.in-Both.is))

pub operator_holds-returns-in_default-operator : goal.operator_holds-returns-in_default-operator
operator_holds-returns-in_default-operator t c = sym (value_either _ _ _ _ _ c.if-depth-eq0.false _ _ (sym c.guard_holds.ensures ∙ c.in_ok-left.was) _ _ (sym c.guard_holds-2.ensures ∙ c.in_ok-right.was) (the_either c.args.operator c.in_default.not-Opposite c.in_default-operator.not-Both))
