-- The invariant: the first i children are appended. A turn appends one more.
-- Assumes nothing.
use mathlib.Core.Path.{refl, ◌∙◌}
use Rattle.texts.proofs.Appending.{appended_none, appended_then, appended_same}
use Rattle.lines.specs.Lines.{child_fields}
use Rattle.lines.proofs.LineLaws.{one_more, no_more}
use Rattle.loopline.proofs.append_children.Goals as goal

pub loop-i-init : goal.loop-i-init
unfolding child_fields
loop-i-init c = (refl, appended_none _ _ _ c.least-end.ensures)

pub loop-i-preserved : goal.loop-i-preserved
loop-i-preserved c =
    let inv = c.loop-i.invariant in
    let a = c.append_child-end in
    (a.auto.out ∙ inv.0, appended_same _ _ _ _ _ _ (one_more _ _ c.loop-i-test.true) (appended_then _ _ _ _ _ _ _ _ inv.1 a.ensures))

pub returns : goal.returns
returns c = appended_same _ _ _ _ _ _ (no_more _ _ c.loop-i-test.false) c.loop-i.invariant.1
