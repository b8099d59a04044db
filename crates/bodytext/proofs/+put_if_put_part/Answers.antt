-- `put_part` writes one statement after the other, and `put_if` an if with its parts: a law for each way out.
-- With each call the bytes get fewer, but for the call of `put_if`, whose measure is one less on the same bytes.
-- Assumes nothing.
use native.Mathlib.Omega.{arith}
use mathlib.Core.Path.{sym, ◌∙◌}
use Rattle.model.specs.Words.{listed}
use Rattle.grammar.specs.Words.{spelled}
use Rattle.bodies.proofs.ReaderLaws.{told, behind_falls, parts_fall}
use Rattle.bodytext.proofs.PartLaws.{putting_none, putting_on, part_none, do_on, move_on, if_on, if_alone, if_both}
use Rattle.bodytext.proofs.+put_if_put_part.Goals.{put_part-in-Do, put_part-in-MoveTo, put_part-in-If}
use Rattle.bodytext.proofs.+put_if_put_part.Goals as goal

pub put_if-overflow_add-level : goal.put_if-overflow_add-level
put_if-overflow_add-level t c = let r = c.requires in omega (arith, r.levelled, (told _ _ (sym r.part_value)).0)

pub put_if-put_part-b-requires : goal.put_if-put_part-b-requires
put_if-put_part-b-requires t c =
    let r = c.requires in
    let x = c.args in
    let y = c.then_part-first in
    let f = parts_fall 0 x.branch.thens x.part.now y.result.now (told x.part.now _ (sym r.part_value)).0 y.ensures in
    (omega arith, omega (arith, r.levelled))

pub put_if-returns-then-second-lt8 : goal.put_if-returns-then-second-lt8
unfolding listed spelled
put_if-returns-then-second-lt8 t c = if_alone _ _ _ _ _ _ (sym c.requires.part_value) c.put_head-a.ensures _ c.then_part-first.ensures c.put_part-b.ensures _ c.else_part-second.ensures c.if-second-lt8.true c.put_line.ensures

pub put_if-overflow_add-level-2 : goal.put_if-overflow_add-level-2
put_if-overflow_add-level-2 t c = let r = c.requires in omega (arith, r.levelled, (told _ _ (sym r.part_value)).0)

pub put_if-put_part-d-requires : goal.put_if-put_part-d-requires
put_if-put_part-d-requires t c =
    let r = c.requires in
    let x = c.args in
    let y = c.else_part-second in
    let f = parts_fall x.branch.thens x.branch.elses x.part.now y.result.now (told x.part.now _ (sym r.part_value)).0 y.ensures in
    (omega arith, omega (arith, r.levelled))

pub put_if-returns : goal.put_if-returns
unfolding listed spelled
put_if-returns t c = if_both _ _ _ _ _ _ (sym c.requires.part_value) c.put_head-a.ensures _ c.then_part-first.ensures c.put_part-b.ensures _ c.else_part-second.ensures c.if-second-lt8.false c.put_line-c.ensures c.put_part-d.ensures c.put_line-2.ensures

pub put_part-loop-command-init : goal.put_part-loop-command-init
put_part-loop-command-init t c = putting_none (omega arith)

pub put_part-returns-in-Unknown : goal.put_part-returns-in-Unknown
put_part-returns-in-Unknown t c =
    c.loop-command.invariant.on _ _ (part_none _ _ _ _ _ _ _ (omega arith) c.loop-command.invariant.small (sym c.in-Unknown.is ∙ c.statement_record-front.ensures))

pub put_part-loop-command-smaller : goal.put_part-loop-command-smaller
put_part-loop-command-smaller t c = elim c.match-front.branch [
  | put_part-in-Do w ↦ behind_falls c.match-front.front _ _ (told c.loop-command.rest.now _ (sym w.in-Do.is ∙ c.statement_record-front.ensures)).0 c.behind_statement-rest.ensures
  | put_part-in-MoveTo w ↦ behind_falls c.match-front.front _ _ (told c.loop-command.rest.now _ (sym w.in-MoveTo.is ∙ c.statement_record-front.ensures)).0 c.behind_statement-rest.ensures
  | put_part-in-If w ↦ behind_falls c.match-front.front _ _ (told c.loop-command.rest.now _ (sym w.in-If.is ∙ c.statement_record-front.ensures)).0 c.behind_statement-rest.ensures
]

pub put_part-loop-command-preserved : goal.put_part-loop-command-preserved
put_part-loop-command-preserved t c = elim c.match-front.branch [
  | put_part-in-Do w ↦
      let e = sym w.in-Do.is ∙ c.statement_record-front.ensures in
      let f = behind_falls c.match-front.front _ _ (told c.loop-command.rest.now _ e).0 c.behind_statement-rest.ensures in
      rw (w.out-is, w.next-is)
      (putting_on c.loop-command.invariant _ (omega (arith, f)) (omega arith)
      (λ end to h. do_on _ _ _ _ _ _ _ e _ w.put_do-next.ensures (rw w.front-is at c.behind_statement-rest.ensures) h))
  | put_part-in-MoveTo w ↦
      let e = sym w.in-MoveTo.is ∙ c.statement_record-front.ensures in
      let f = behind_falls c.match-front.front _ _ (told c.loop-command.rest.now _ e).0 c.behind_statement-rest.ensures in
      rw (w.out-is, w.next-is)
      (putting_on c.loop-command.invariant _ (omega (arith, f)) (omega arith)
      (λ end to h. move_on _ _ _ _ _ _ e _ w.put_move-next.ensures (rw w.front-is at c.behind_statement-rest.ensures) h))
  | put_part-in-If w ↦
      let e = sym w.in-If.is ∙ c.statement_record-front.ensures in
      let f = behind_falls c.match-front.front _ _ (told c.loop-command.rest.now _ e).0 c.behind_statement-rest.ensures in
      rw (w.out-is, w.next-is)
      (putting_on c.loop-command.invariant _ (omega (arith, f)) (omega arith)
      (λ end to h. if_on _ _ _ _ _ _ e _ w.put_if-next.ensures (rw w.front-is at c.behind_statement-rest.ensures) h))
]
