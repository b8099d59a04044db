-- `round`: the next level of the states before q, and the lanes that are in any of them.
-- Assumes nothing.
use native.Mathlib.Omega.{arith}
use lib.ListN.{length-set}
use Rattle.arrows.proofs.LevelLaws.{next_none, next_some, rounds_start, rounds_more, rounds_end}
use Rattle.arrows.proofs.levels.round.Goals as goal
use Rattle.arrows.proofs.levels.round.Goals.{then-level-q-eq0, else-level-q-eq0}

pub loop-q-init : goal.loop-q-init
loop-q-init c = ((omega arith, c.requires.2), rounds_start _ _ _ _)

pub onward-word-requires : goal.onward-word-requires
onward-word-requires c =
    let p = c.requires in
    (p.0, c.loop-q-test.true, p.1)

pub loop-q-preserved : goal.loop-q-preserved
loop-q-preserved c = (
  (omega arith, rw length-set c.loop-q.invariant.0.1),
  elim c.if-level-q-eq0.branch [
    | then-level-q-eq0 w ↦ rw w.word-is (rounds_more _ _ _ _ _ _ 0 c.loop-q.invariant.1 (omega (arith, c.loop-q.invariant.0.1)) (λ counted n L. next_none _ _ counted n _ L _ c.loop-q-test.true w.if-level-q-eq0.true))
    | else-level-q-eq0 w ↦ rw w.word-is (rounds_more _ _ _ _ _ _ _ c.loop-q.invariant.1 (omega (arith, c.loop-q.invariant.0.1)) (λ counted n L. next_some _ _ counted n _ L _ _ w.onward-word.ensures))
  ],
)

pub returns : goal.returns
returns c = rounds_end _ _ _ _ _ _ c.loop-q.invariant.1 c.loop-q.invariant.0.0 c.loop-q-test.false
