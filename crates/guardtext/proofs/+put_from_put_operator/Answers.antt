-- `put_from` and `put_operator` write the text of the guard that the rules read: a law for each way out. The records left fall from a guard
-- to its operands, the operators left on the path from an operator to each operand.
-- Assumes nothing.
use native.Mathlib.Omega.{arith}
use mathlib.Core.Path.{refl, sym, ◌∙◌, ap}
use Rattle.model.specs.Words.{listed}
use Rattle.grammar.specs.Words.{spelled}
use Rattle.records.specs.Records.{record_as}
use Rattle.pen.proofs.Puts.{puts_as}
use Rattle.records.proofs.GuardLaws.{known_there}
use Rattle.guardtext.proofs.GuardTextLaws.{written_behind, from_atom, from_operator, from_unknown, operator_deep, operator_first, operator_one, operator_second, operator_two}
use Rattle.guardtext.proofs.+put_from_put_operator.Goals as goal

-- an atom's end, and where an operator's operands begin, are numbers
pub put_from-overflow_add-result : goal.put_from-overflow_add-result
put_from-overflow_add-result t c =
    let l = known_there _ _ (ap record_as (sym c.in-Atom.is) ∙ c.guard_record.ensures) refl in
    omega (arith, l)

pub put_from-overflow_add-from : goal.put_from-overflow_add-from
put_from-overflow_add-from t c =
    let l = known_there _ _ (ap record_as (sym c.in-Operator.is) ∙ c.guard_record.ensures) refl in
    omega (arith, l)

-- the operands leave fewer records
pub put_from-put_operator-requires : goal.put_from-put_operator-requires
put_from-put_operator-requires t c = let l = known_there _ _ (ap record_as (sym c.in-Operator.is) ∙ c.guard_record.ensures) refl in omega (arith, l)

pub put_from-returns-in-Atom : goal.put_from-returns-in-Atom
put_from-returns-in-Atom t c = from_atom _ _ _ _ _ _ _ _ _ _ _ (ap record_as (sym c.in-Atom.is) ∙ c.guard_record.ensures) _ c.put_atom.ensures

pub put_from-returns-in-Operator : goal.put_from-returns-in-Operator
put_from-returns-in-Operator t c = from_operator _ _ _ _ _ _ _ _ _ (ap record_as (sym c.in-Operator.is) ∙ c.guard_record.ensures) _ c.put_operator.ensures

pub put_from-returns-in-Unknown : goal.put_from-returns-in-Unknown
put_from-returns-in-Unknown t c = from_unknown _ _ _ _ _ _ _ _ (ap record_as (sym c.in-Unknown.is) ∙ c.guard_record.ensures)

pub put_operator-returns-then-depth-eq0 : goal.put_operator-returns-then-depth-eq0
put_operator-returns-then-depth-eq0 t c = operator_deep _ _ _ _ _ c.args.operator _ _ c.if-depth-eq0.true _

pub put_operator-returns-in_err-b : goal.put_operator-returns-in_err-b
put_operator-returns-in_err-b t c =
    rw c.from_residual.ensures (operator_first _ _ _ _ _ c.args.operator _ _ c.if-depth-eq0.false _ _ _ _ c.put_from.ensures c.in_err-b.was)

pub put_operator-returns-in-Opposite : goal.put_operator-returns-in-Opposite
unfolding spelled listed
put_operator-returns-in-Opposite t c =
    operator_one _ _ _ _ _ c.args.operator _ _ c.if-depth-eq0.false _ _ _ _ c.put_from.ensures _ _ c.in_ok-b.was
    c.in-Opposite.is (puts_as c.opening.ensures c.put_bytes-a.ensures) _ _ c.put_bytes.ensures

-- the second operand begins behind where the first does
pub put_operator-put_from-requires-2 : goal.put_operator-put_from-requires-2
put_operator-put_from-requires-2 t c = let l = written_behind _ _ _ _ _ _ _ _ _ c.put_from.ensures _ _ c.in_ok-b.was in omega (arith, l)

pub put_operator-returns-in_err-d : goal.put_operator-returns-in_err-d
put_operator-returns-in_err-d t c =
    rw c.from_residual-in_err-d.ensures
    (operator_second _ _ _ _ _ c.args.operator _ _ c.if-depth-eq0.false _ _ _ _ c.put_from.ensures _ _ c.in_ok-b.was
    c.in_default.not-Opposite _ _ _ _ c.put_from-2.ensures c.in_err-d.was)

pub put_operator-returns : goal.put_operator-returns
unfolding spelled listed
put_operator-returns t c =
    operator_two _ _ _ _ _ c.args.operator _ _ c.if-depth-eq0.false _ _ _ _ c.put_from.ensures _ _ c.in_ok-b.was
    c.in_default.not-Opposite _ _ _ _ c.put_from-2.ensures _ _ c.in_ok-d.was (puts_as c.opening.ensures c.put_bytes-a.ensures) (puts_as c.between.ensures c.put_bytes-c.ensures) _ _ c.put_bytes-2.ensures
