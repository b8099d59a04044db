use mathlib.Core.Path.{sym, ◌∙◌}
use Rattle.classfile.proofs.FieldLaws.{skip_none, skip_on, skip_found, skip_end}
use Rattle.classfile.proofs.fields.skip_blanks.Goals as goal

pub loop-i-init : goal.loop-i-init
loop-i-init c = skip_none _ _ c.requires

pub returns-then-not-is_blank : goal.returns-then-not-is_blank
returns-then-not-is_blank c = skip_found _ _ _ c.loop-i.invariant (sym c.is_blank.ensures ∙ c.if-not-is_blank.true)

pub loop-i-preserved : goal.loop-i-preserved
loop-i-preserved c = skip_on _ _ _ c.loop-i.invariant c.loop-i-test.true (sym c.is_blank.ensures ∙ c.if-not-is_blank.false)

pub returns : goal.returns
returns c = skip_end _ _ _ c.loop-i.invariant c.loop-i-test.false
