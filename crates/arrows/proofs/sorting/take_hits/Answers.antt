-- `take_hits`: after the clauses before m, the words have what these take, and the rest remains.
-- Assumes nothing.
use native.Mathlib.Omega.{arith}
use mathlib.Core.Path.{refl}
use Rattle.arrows.proofs.SortingLaws.{taking_start, taking_hit, taking_past, taking_end}
use Rattle.arrows.proofs.sorting.take_hits.Goals as goal
use Rattle.arrows.proofs.sorting.take_hits.Goals.{then-at-lt1280, else-at-lt1280}

pub loop-m-init : goal.loop-m-init
loop-m-init c = taking_start _ _ _ _ _ _ _ c.requires.rising (omega arith)

pub loop-m-preserved : goal.loop-m-preserved
loop-m-preserved c =
    let S = c.loop-m.invariant in
    elim c.if-at-lt1280.branch [
      | then-at-lt1280 w ↦ rw w.table-is
          (taking_hit _ _ _ _ _ _ _ _ _ _ S c.loop-m-test.true _ c.word_at-word.ensures c.word_at-word.type_inv _ refl (omega (arith, S.long, c.requires.of_table, w.if-at-lt1280.true)))
      | else-at-lt1280 w ↦ rw w.table-is (taking_past _ _ _ _ _ _ _ _ _ _ S c.loop-m-test.true _ c.word_at-word.ensures c.word_at-word.type_inv w.if-at-lt1280.false)
    ]

pub returns : goal.returns
returns c = taking_end _ _ _ _ _ _ _ _ _ _ c.loop-m.invariant c.loop-m-test.false
