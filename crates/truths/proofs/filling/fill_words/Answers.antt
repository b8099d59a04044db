-- `fill_words`: from the last record down, each word is made of those behind it.
-- Assumes nothing.
use native.Mathlib.Omega.{arith}
use Rattle.truths.proofs.WordLaws.{filled_start, filled_more, filled_all}
use Rattle.truths.proofs.filling.fill_words.Goals as goal

pub loop-i-init : goal.loop-i-init
loop-i-init c = (omega arith, filled_start _ _ _ _ _ _ _)

pub loop-i-preserved : goal.loop-i-preserved
loop-i-preserved c =
    let F = c.loop-i.invariant.1 in
    let i = c.loop-i.i in
    (omega arith, filled_more _ i _ (omega arith) _ _ _ _ _ _ _ _ F (omega arith) (omega (arith, F.long)) c.record_word.ensures)

pub returns : goal.returns
returns c = filled_all _ _ _ _ _ _ _ _ _ c.loop-i.invariant.1 c.loop-i-test.false
