-- `sweep_list` runs one statement after the other: who runs the rest of the list on the lanes that are left has run all, and each turn the rest
-- gets shorter. `sweep_if` runs each part on the lanes that its guard chooses. With each call the bytes get fewer, but for the call of
-- `sweep_if`, whose measure is one less on the same bytes.
-- Assumes nothing.
use native.Mathlib.Omega.{arith}
use mathlib.Core.Path.{refl, sym, ap, ◌∙◌}
use Rattle.bodies.specs.StatementReaders.{behind_statement}
use Rattle.bodies.specs.declared.statements.StatementRecord.{StatementRecord}
use Rattle.bodies.proofs.ReaderLaws.{told, parts_fall, behind_falls}
use Rattle.sweeps.proofs.SweepLaws.{sweep_if as swept_if, sweeping_start, sweeping_end, sweeping_sent, sweeping_on, swept_go, swept_nothing}
use Rattle.sweeps.proofs.+sweep_if_sweep_list.Goals as goal
use Rattle.sweeps.proofs.+sweep_if_sweep_list.Goals.{sweep_list-in-Do, sweep_list-in-If}

pub sweep_if-sweep_list-first-requires : goal.sweep_if-sweep_list-first-requires
sweep_if-sweep_list-first-requires t c =
    (omega (arith, parts_fall 0 c.args.branch.thens c.args.part.now c.then_part.result.now (told c.args.part.now _ (sym c.requires.part_value)).0 c.then_part.ensures), c.requires.q_bound)

pub sweep_if-sweep_list-second-requires : goal.sweep_if-sweep_list-second-requires
sweep_if-sweep_list-second-requires t c =
    (omega (arith, parts_fall c.args.branch.thens c.args.branch.elses c.args.part.now c.else_part.result.now (told c.args.part.now _ (sym c.requires.part_value)).0 c.else_part.ensures), (c.requires.q_bound.0, c.sweep_list-first.ensures.kept.long ∙ c.requires.q_bound.1))

pub sweep_if-returns : goal.sweep_if-returns
sweep_if-returns t c =
    swept_if _ _ _ _ _ _ (sym c.requires.part_value) _ c.word_at-word.ensures _ c.then_part.ensures c.sweep_list-first.ensures _ c.else_part.ensures c.sweep_list-second.ensures

pub sweep_list-loop-left-init : goal.sweep_list-loop-left-init
sweep_list-loop-left-init t c = sweeping_start _ _ _ _ _

pub sweep_list-returns-in-MoveTo : goal.sweep_list-returns-in-MoveTo
sweep_list-returns-in-MoveTo t c = swept_go _ _ _ _ _ _ _ _ c.loop-left.invariant _ _ _ (sym c.in-MoveTo.is ∙ c.statement_record-front.ensures) refl c.add_lanes.ensures

pub sweep_list-returns-in-Unknown : goal.sweep_list-returns-in-Unknown
sweep_list-returns-in-Unknown t c = swept_nothing _ _ _ _ _ _ _ _ c.loop-left.invariant (sym c.in-Unknown.is ∙ c.statement_record-front.ensures)

pub sweep_list-loop-left-smaller : goal.sweep_list-loop-left-smaller
sweep_list-loop-left-smaller t c =
    elim c.match-front.branch [
      | sweep_list-in-Do w ↦ behind_falls c.match-front.front _ _ (told c.loop-left.rest.now _ (sym w.in-Do.is ∙ c.statement_record-front.ensures)).0 c.behind_statement-rest.ensures
      | sweep_list-in-If w ↦ behind_falls c.match-front.front _ _ (told c.loop-left.rest.now _ (sym w.in-If.is ∙ c.statement_record-front.ensures)).0 c.behind_statement-rest.ensures
    ]

pub sweep_list-loop-left-preserved : goal.sweep_list-loop-left-preserved
sweep_list-loop-left-preserved t c =
    elim c.match-front.branch [
      | sweep_list-in-Do w ↦ rw (w.table-is, w.left-is)
          (sweeping_sent _ _ _ _ _ _ _ _ c.loop-left.invariant _ _ (sym w.in-Do.is ∙ c.statement_record-front.ensures) _ (c.behind_statement-rest.ensures ∙ ap (λ (r : StatementRecord). behind_statement r c.loop-left.rest.now) (w.front-is ∙ w.in-Do.is)))
      | sweep_list-in-If w ↦ rw (w.table-is, w.left-is)
          (sweeping_on _ _ _ _ _ _ _ _ c.loop-left.invariant _ (sym w.in-If.is ∙ c.statement_record-front.ensures) w.sweep_if-left.ensures _ (c.behind_statement-rest.ensures ∙ ap (λ (r : StatementRecord). behind_statement r c.loop-left.rest.now) w.front-is))
    ]

pub sweep_list-returns : goal.sweep_list-returns
sweep_list-returns t c = sweeping_end _ _ _ _ _ _ _ _ c.loop-left.invariant c.loop-left-test.false
