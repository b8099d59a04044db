use mathlib.Core.Path.{sym, ◌∙◌}
use Rattle.words.proofs.Laws.{run_none, run_on, run_found, run_over}
use Rattle.words.proofs.end_of_run.Goals as goal

pub loop-i-init : goal.loop-i-init
loop-i-init c = run_none _ _ c.requires

pub returns-then-not-is_name_char : goal.returns-then-not-is_name_char
returns-then-not-is_name_char c = run_found _ _ _ c.loop-i.invariant c.loop-i-test.true (sym c.is_name_char.ensures ∙ c.if-not-is_name_char.true)

pub loop-i-preserved : goal.loop-i-preserved
loop-i-preserved c = run_on _ _ _ c.loop-i.invariant c.loop-i-test.true (sym c.is_name_char.ensures ∙ c.if-not-is_name_char.false)

pub returns : goal.returns
returns c = run_over _ _ _ c.loop-i.invariant c.loop-i-test.false
