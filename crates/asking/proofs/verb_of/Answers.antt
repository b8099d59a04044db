-- The tests are tried in their order.
-- Assumes nothing.
use mathlib.Core.Path.{sym, ◌∙◌}
use Rattle.asking.proofs.AskingLaws.{verb_judge, verb_loop, verb_probe, verb_phase, verb_command, verb_read, verb_write, verb_other}
use Rattle.asking.proofs.verb_of.Goals as goal

pub returns-then-is_form : goal.returns-then-is_form
returns-then-is_form c = verb_judge _ _ (sym c.is_form.ensures ∙ c.if-is_form.true)

pub returns-then-is_form-2 : goal.returns-then-is_form-2
returns-then-is_form-2 c = verb_loop _ _ (sym c.is_form.ensures ∙ c.if-is_form.false) (sym c.is_form-2.ensures ∙ c.if-is_form-2.true)

pub returns-then-is_form-3 : goal.returns-then-is_form-3
returns-then-is_form-3 c = verb_probe _ _ (sym c.is_form.ensures ∙ c.if-is_form.false) (sym c.is_form-2.ensures ∙ c.if-is_form-2.false) (sym c.is_form-3.ensures ∙ c.if-is_form-3.true)

pub returns-then-is_form-4 : goal.returns-then-is_form-4
returns-then-is_form-4 c = verb_phase _ _ (sym c.is_form.ensures ∙ c.if-is_form.false) (sym c.is_form-2.ensures ∙ c.if-is_form-2.false) (sym c.is_form-3.ensures ∙ c.if-is_form-3.false) (sym c.is_form-4.ensures ∙ c.if-is_form-4.true)

pub returns-then-is_form-5 : goal.returns-then-is_form-5
returns-then-is_form-5 c = verb_command _ _ (sym c.is_form.ensures ∙ c.if-is_form.false) (sym c.is_form-2.ensures ∙ c.if-is_form-2.false) (sym c.is_form-3.ensures ∙ c.if-is_form-3.false) (sym c.is_form-4.ensures ∙ c.if-is_form-4.false) (sym c.is_form-5.ensures ∙ c.if-is_form-5.true)

pub returns-then-is_form-6 : goal.returns-then-is_form-6
returns-then-is_form-6 c = verb_read _ _ (sym c.is_form.ensures ∙ c.if-is_form.false) (sym c.is_form-2.ensures ∙ c.if-is_form-2.false) (sym c.is_form-3.ensures ∙ c.if-is_form-3.false) (sym c.is_form-4.ensures ∙ c.if-is_form-4.false) (sym c.is_form-5.ensures ∙ c.if-is_form-5.false) (sym c.is_form-6.ensures ∙ c.if-is_form-6.true)

pub returns-then-is_form-7 : goal.returns-then-is_form-7
returns-then-is_form-7 c = verb_write _ _ (sym c.is_form.ensures ∙ c.if-is_form.false) (sym c.is_form-2.ensures ∙ c.if-is_form-2.false) (sym c.is_form-3.ensures ∙ c.if-is_form-3.false) (sym c.is_form-4.ensures ∙ c.if-is_form-4.false) (sym c.is_form-5.ensures ∙ c.if-is_form-5.false) (sym c.is_form-6.ensures ∙ c.if-is_form-6.false) (sym c.is_form-7.ensures ∙ c.if-is_form-7.true)

pub returns : goal.returns
returns c = verb_other _ _ (sym c.is_form.ensures ∙ c.if-is_form.false) (sym c.is_form-2.ensures ∙ c.if-is_form-2.false) (sym c.is_form-3.ensures ∙ c.if-is_form-3.false) (sym c.is_form-4.ensures ∙ c.if-is_form-4.false) (sym c.is_form-5.ensures ∙ c.if-is_form-5.false) (sym c.is_form-6.ensures ∙ c.if-is_form-6.false) (sym c.is_form-7.ensures ∙ c.if-is_form-7.false)
