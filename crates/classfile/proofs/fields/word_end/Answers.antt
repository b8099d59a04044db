use mathlib.Core.Path.{sym, ◌∙◌}
use Rattle.classfile.proofs.FieldLaws.{run_none, run_on, run_found, run_over}
use Rattle.classfile.proofs.fields.word_end.Goals as goal

pub loop-i-init : goal.loop-i-init
loop-i-init c = run_none _ _ c.requires

pub returns-then-is_white : goal.returns-then-is_white
returns-then-is_white c = run_found _ _ _ c.loop-i.invariant c.loop-i-test.true (sym c.is_white.ensures ∙ c.if-is_white.true)

pub loop-i-preserved : goal.loop-i-preserved
loop-i-preserved c = run_on _ _ _ c.loop-i.invariant c.loop-i-test.true (sym c.is_white.ensures ∙ c.if-is_white.false)

pub returns : goal.returns
returns c = run_over _ _ _ c.loop-i.invariant c.loop-i-test.false
