-- The word, then a number more in each turn.
-- Assumes nothing.
use mathlib.Core.Path.{◌∙◌}
use Rattle.texts.proofs.Appending.{appended_then, appended_same}
use Rattle.lines.specs.Lines.{said}
use Rattle.lines.proofs.LineLaws.{said_more, said_all}
use Rattle.lines.proofs.answers.say.Goals as goal

pub loop-n-init : goal.loop-n-init
unfolding said
loop-n-init c = (c.append_bytes-end.auto.out, c.append_bytes-end.ensures)

pub loop-n-preserved : goal.loop-n-preserved
loop-n-preserved c =
    let inv = c.loop-n.invariant in
    (c.append_number-end.auto.out ∙ inv.0, appended_same _ _ _ _ _ _ (said_more _ _ _ c.loop-n-test.true) (appended_then _ _ _ _ _ _ _ _ inv.1 c.append_number-end.ensures))

pub returns : goal.returns
returns c = appended_same _ _ _ _ _ _ (said_all _ _ _ c.loop-n-test.false) c.loop-n.invariant.1
