-- `hold` meets its contract. The loop's invariant, `Filling`: the table holds the first names, and the others stand from `rest` on.
-- Assumes nothing.
use Prim.Native.Nat.{ℕ, ◌/◌}
use native.Mathlib.Omega.{arith}
use mathlib.Core.Path.{◌≡◌, refl, sym, ◌∙◌, ap}
use lib.ListN.{length, length-set}
use lib.Seq.{lt-length-set}
use Rattle.own.proofs.HeldLaws.{grown, filling_none, filling_more}
use Rattle.own.proofs.hold.Goals as goal

pub loop-count-init : goal.loop-count-init
loop-count-init c = (refl, refl, filling_none _ _ _ _ _)

pub bounds-table-count-in-loop-count : goal.bounds-table-count-in-loop-count
bounds-table-count-in-loop-count c = lt-length-set c.loop-count.table _ _ (omega arith)

pub loop-count-preserved : goal.loop-count-preserved
loop-count-preserved c =
    let i = c.loop-count.invariant in
    let l : length (grown c.loop-count.table c.loop-count.count c.in-Some.start c.in-Some.end) ≡ length c.loop-count.table =
    simp length-set in
    (l ∙ i.0, i.1 ∙ ap (λ (n : ℕ). n / 2) (sym l), filling_more _ _ _ _ (omega arith) _ _ _ _ _ i.2 c.in-Some.ensures)

pub returns-in_default : goal.returns-in_default
returns-in_default c =
    let i = c.loop-count.invariant in
    record { filling = i.2; complete = λ l. c.in_default.ensures }

pub returns : goal.returns
returns c =
    let i = c.loop-count.invariant in
    let e : c.loop-count.count ≡ length c.args.table.now / 2 = omega (arith, c.loop-count.auto.count-end, c.loop-count-test.false) in
    record { filling = rw e at i.2; complete = λ l. absurd (omega arith) }
