-- `run_list` runs one statement after the other, and `run_if` the part that its guard chooses: a law for each way out.
-- With each call the bytes get fewer, but for the call of `run_if`, whose measure is one less on the same bytes.
-- Assumes nothing.
use borrow.Author.Rules.{rules}
use native.Mathlib.Omega.{arith}
use mathlib.Core.Path.{sym, ◌∙◌}
use mathlib.Core.Bool.{true, false}
use Rattle.bodies.specs.declared.statements.StatementRecord.TheVariants.{Do, If}
use Rattle.bodies.proofs.ReaderLaws.{told, behind_falls, parts_fall}
use Rattle.running.proofs.RunLaws.{room_send, room_sent, room_in, room_ran, run_in, run_nothing, run_go, run_sent, run_moved, run_on}
use Rattle.running.proofs.+run_if_run_list.Goals as goal

pub run_if-run_list-requires : goal.run_if-run_list-requires
run_if-run_list-requires t c =
    let a = c.args in
    let p = c.then_part in
    let e = sym c.requires.part_value in
    (omega (arith, parts_fall 0 a.branch.thens a.part.now p.result.now (told a.part.now _ e).0 p.ensures), room_in _ _ _ _ _ c.requires.room _ e true _ (sym c.if-guard_true.true ∙ c.guard_true.ensures) p.ensures)

pub run_if-returns-then-guard_true : goal.run_if-returns-then-guard_true
run_if-returns-then-guard_true t c =
    run_in _ _ _ _ _ (sym c.requires.part_value) _ c.requires.room.crewed true (sym c.if-guard_true.true ∙ c.guard_true.ensures) _ c.then_part.ensures c.run_list.ensures

pub run_if-run_list-requires-2 : goal.run_if-run_list-requires-2
run_if-run_list-requires-2 t c =
    let a = c.args in
    let p = c.else_part in
    let e = sym c.requires.part_value in
    (omega (arith, parts_fall a.branch.thens a.branch.elses a.part.now p.result.now (told a.part.now _ e).0 p.ensures), room_in _ _ _ _ _ c.requires.room _ e false _ (sym c.if-guard_true.false ∙ c.guard_true.ensures) p.ensures)

pub run_if-returns : goal.run_if-returns
run_if-returns t c =
    run_in _ _ _ _ _ (sym c.requires.part_value) _ c.requires.room.crewed false (sym c.if-guard_true.false ∙ c.guard_true.ensures) _ c.else_part.ensures c.run_list-2.ensures

pub run_list-send-next-requires : goal.run_list-send-next-requires
run_list-send-next-requires t c =
    let h = c.requires in
    record { list_len_bound = h.short; counted = room_send _ _ _ _ _ h _ _ (sym c.in-Do.is ∙ c.statement_record-front.ensures) }

pub run_list-run_list-requires : goal.run_list-run_list-requires
run_list-run_list-requires t c =
    let part = c.args.part.now in
    let f = sym c.in-Do.is ∙ c.statement_record-front.ensures in
    (omega (arith, behind_falls (Do c.in-Do.command c.in-Do.pattern) part c.behind_statement.result.now (told part _ f).0 c.behind_statement.ensures), room_sent _ _ _ _ _ c.requires _ _ f _ _ c.send-next.ensures c.behind_statement.ensures)

pub run_list-run_if-ran-requires : goal.run_list-run_if-ran-requires
run_list-run_if-ran-requires t c = (search rules, (c.requires, sym c.statement_record-front.ensures ∙ c.in-If.is))

pub run_list-run_list-requires-in-None : goal.run_list-run_list-requires-in-None
run_list-run_list-requires-in-None t c =
    let part = c.args.part.now in
    let f = sym c.in-If.is ∙ c.statement_record-front.ensures in
    (omega (arith, behind_falls (If c.in-If.branch) part c.behind_statement-in-None.result.now (told part _ f).0 c.behind_statement-in-None.ensures), room_ran _ _ _ _ _ c.requires _ f _ c.run_if-ran.ensures c.in-None.is c.behind_statement-in-None.ensures)

pub run_list-returns-in-Do : goal.run_list-returns-in-Do
run_list-returns-in-Do t c = run_sent _ _ _ _ _ _ _ (sym c.in-Do.is ∙ c.statement_record-front.ensures) _ c.send-next.ensures c.behind_statement.ensures c.run_list.ensures

pub run_list-returns-in-MoveTo : goal.run_list-returns-in-MoveTo
run_list-returns-in-MoveTo t c = run_go _ _ _ _ _ _ (sym c.in-MoveTo.is ∙ c.statement_record-front.ensures)

pub run_list-returns-in-Some : goal.run_list-returns-in-Some
run_list-returns-in-Some t c = run_moved _ _ _ _ _ _ (sym c.in-If.is ∙ c.statement_record-front.ensures) c.run_if-ran.ensures _ c.in-Some.is

pub run_list-returns-in-None : goal.run_list-returns-in-None
run_list-returns-in-None t c = run_on _ _ _ _ _ _ (sym c.in-If.is ∙ c.statement_record-front.ensures) c.run_if-ran.ensures _ c.in-None.is c.behind_statement-in-None.ensures c.run_list-in-None.ensures

pub run_list-returns-in-Unknown : goal.run_list-returns-in-Unknown
run_list-returns-in-Unknown t c = run_nothing _ _ _ _ _ (sym c.in-Unknown.is ∙ c.statement_record-front.ensures)
