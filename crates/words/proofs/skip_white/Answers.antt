use mathlib.Core.Path.{sym, ◌∙◌}
use Rattle.words.proofs.Laws.{skip_none, skip_on, skip_found, skip_end}
use Rattle.words.proofs.skip_white.Goals as goal

pub loop-i-init : goal.loop-i-init
loop-i-init c = skip_none _ _ c.requires

pub returns-then-not-is_white : goal.returns-then-not-is_white
returns-then-not-is_white c = skip_found _ _ _ c.loop-i.invariant (sym c.is_white.ensures ∙ c.if-not-is_white.true)

pub loop-i-preserved : goal.loop-i-preserved
loop-i-preserved c = skip_on _ _ _ c.loop-i.invariant c.loop-i-test.true (sym c.is_white.ensures ∙ c.if-not-is_white.false)

pub returns : goal.returns
returns c = skip_end _ _ _ c.loop-i.invariant c.loop-i-test.false
