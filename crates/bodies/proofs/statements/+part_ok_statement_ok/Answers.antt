-- `part_ok` reads a part one statement at a time, and `statement_ok` goes by the record: a law for each way out.
-- With each call the bytes get fewer, but for the call of `statement_ok`, whose measure is one less on the same bytes.
-- Assumes nothing.
-- what `part-ok` is given at the measure t, and what a call of it asks below t
-- what `statement-ok` is given at the measure t, and what a call of it asks below t
use native.Mathlib.Omega.{arith}
use mathlib.Core.Path.{sym, ◌∙◌}
use Rattle.model.proofs.Words.{passed, not_passed}
use Rattle.bodies.proofs.ReaderLaws.{behind_falls, parts_fall}
use Rattle.bodies.proofs.PartLaws.{right_empty, right_cut, right_broken, right_goes_on}
use Rattle.bodies.proofs.StatementLaws.{right_do, right_move, right_unknown, right_not_zero, right_too_deep, right_if}
use mathlib.Core.Path.{ap}
use mathlib.Core.Bool.{not}
use Rattle.bodies.proofs.statements.+part_ok_statement_ok.Goals as goal

pub part_ok-returns-then-part-lt8 : goal.part_ok-returns-then-part-lt8
part_ok-returns-then-part-lt8 t c = sym (right_empty _ _ _ _ _ c.if-part-lt8.true)

pub part_ok-returns-then-part-records_beside : goal.part_ok-returns-then-part-records_beside
part_ok-returns-then-part-records_beside t c = sym (right_cut _ _ _ _ _ _ c.statement_record-front.ensures c.if-part-lt8.false (omega arith))

pub part_ok-returns-then-not-statement_ok : goal.part_ok-returns-then-not-statement_ok
part_ok-returns-then-not-statement_ok t c = sym (right_broken _ _ _ _ _ _ c.statement_record-front.ensures c.if-part-lt8.false (omega arith) (not_passed c.statement_ok.ensures (ap not c.if-not-statement_ok.true)))

pub part_ok-part_ok-requires : goal.part_ok-part_ok-requires
part_ok-part_ok-requires t c = (omega (arith, behind_falls c.statement_record-front.result c.args.part.now c.behind_statement.result.now c.if-part-lt8.false c.behind_statement.ensures), tt)

pub part_ok-returns : goal.part_ok-returns
part_ok-returns t c = c.part_ok.ensures ∙ sym (right_goes_on _ _ _ _ _ _ c.statement_record-front.ensures c.if-part-lt8.false _ c.behind_statement.ensures (omega arith) (passed c.statement_ok.ensures (ap not c.if-not-statement_ok.false)))

pub statement_ok-returns-then-zero-ne0 : goal.statement_ok-returns-then-zero-ne0
statement_ok-returns-then-zero-ne0 t c = sym (right_not_zero _ _ _ _ _ _ (sym c.in-If.is ∙ c.statement_record-front.ensures) (λ z. c.if-zero-ne0.true (omega arith)))

pub statement_ok-returns-then-depth-eq0 : goal.statement_ok-returns-then-depth-eq0
statement_ok-returns-then-depth-eq0 t c = sym (right_too_deep _ _ _ _ _ _ (sym c.in-If.is ∙ c.statement_record-front.ensures) (omega arith) c.if-depth-eq0.true)

pub statement_ok-part_ok-then_ok-requires : goal.statement_ok-part_ok-then_ok-requires
statement_ok-part_ok-then_ok-requires t c = (omega (arith, parts_fall 0 c.in-If.branch.thens c.args.part.now c.then_part.result.now c.requires c.then_part.ensures), tt)

pub statement_ok-part_ok-else_ok-requires : goal.statement_ok-part_ok-else_ok-requires
statement_ok-part_ok-else_ok-requires t c = (omega (arith, parts_fall c.in-If.branch.thens c.in-If.branch.elses c.args.part.now c.else_part.result.now c.requires c.else_part.ensures), tt)

pub statement_ok-returns-in-Do : goal.statement_ok-returns-in-Do
statement_ok-returns-in-Do t c = c.do_ok.ensures ∙ sym (right_do _ _ _ _ _ _ _ (sym c.in-Do.is ∙ c.statement_record-front.ensures))

pub statement_ok-returns-in-MoveTo : goal.statement_ok-returns-in-MoveTo
statement_ok-returns-in-MoveTo t c = c.move_ok.ensures ∙ sym (right_move _ _ _ _ _ _ (sym c.in-MoveTo.is ∙ c.statement_record-front.ensures))

pub statement_ok-returns-else-depth-eq0 : goal.statement_ok-returns-else-depth-eq0
statement_ok-returns-else-depth-eq0 t c = right_if _ _ _ _ _ _ (sym c.in-If.is ∙ c.statement_record-front.ensures) _ _ _ _ _ (omega arith) c.if-depth-eq0.false c.then_part.ensures c.else_part.ensures c.guard_ok.ensures c.part_ok-then_ok.ensures c.part_ok-else_ok.ensures

pub statement_ok-returns-in-Unknown : goal.statement_ok-returns-in-Unknown
statement_ok-returns-in-Unknown t c = sym (right_unknown _ _ _ _ _ (sym c.in-Unknown.is ∙ c.statement_record-front.ensures) c.requires)
