use Rattle.grammar.specs.Words.{spelled}
use Rattle.model.specs.Words.{listed}
use Rattle.classfile.proofs.HeadLaws.{begun_names, begun_commands, begun_class, begun_unknown}
use mathlib.Core.Path.{sym, ◌∙◌}
use Rattle.classfile.proofs.heads.first_word.Goals as goal

pub returns-then-is_same : goal.returns-then-is_same
unfolding spelled listed
returns-then-is_same c = c.once.ensures ∙ begun_names _ _ (sym c.is_same.ensures ∙ c.if-is_same.true)

pub returns-then-is_same-2 : goal.returns-then-is_same-2
unfolding spelled listed
returns-then-is_same-2 c = c.once-then-is_same-2.ensures ∙ begun_commands _ _ (sym c.is_same.ensures ∙ c.if-is_same.false) (sym c.is_same-2.ensures ∙ c.if-is_same-2.true)

pub returns-then-is_same-3 : goal.returns-then-is_same-3
unfolding spelled listed
returns-then-is_same-3 c = begun_class _ _ (sym c.is_same.ensures ∙ c.if-is_same.false) (sym c.is_same-2.ensures ∙ c.if-is_same-2.false) (sym c.is_same-3.ensures ∙ c.if-is_same-3.true)

pub returns : goal.returns
unfolding spelled listed
returns c = begun_unknown _ _ (sym c.is_same.ensures ∙ c.if-is_same.false) (sym c.is_same-2.ensures ∙ c.if-is_same-2.false) (sym c.is_same-3.ensures ∙ c.if-is_same-3.false)
