use Rattle.model.specs.Words.{listed}
use Rattle.grammar.specs.Words.{spelled}
use mathlib.Core.Path.{sym, ◌∙◌}
use Rattle.words.proofs.Laws.{end_name, end_other, end_top, end_five, end_one, or_of}
use Rattle.words.proofs.word_end.Goals as goal

pub returns-then-is_name_char : goal.returns-then-is_name_char
returns-then-is_name_char c = end_name _ _ _ _ c.requires (sym c.is_name_char.ensures ∙ c.if-is_name_char.true) c.end_of_run-end.ensures.run c.colon_end.ensures

pub returns-then-text-at-ne36 : goal.returns-then-text-at-ne36
returns-then-text-at-ne36 c = end_other _ _ c.requires (sym c.is_name_char.ensures ∙ c.if-is_name_char.false) c.if-text-at-ne36.true

pub returns-then-stands : goal.returns-then-stands
unfolding spelled listed
returns-then-stands c = end_top _ _ c.requires (sym c.is_name_char.ensures ∙ c.if-is_name_char.false) c.if-text-at-ne36.false (sym c.stands.ensures ∙ c.if-stands.true)

pub returns-then-stands-2 : goal.returns-then-stands-2
unfolding spelled listed
returns-then-stands-2 c = end_five _ _ c.requires (sym c.is_name_char.ensures ∙ c.if-is_name_char.false) c.if-text-at-ne36.false (sym c.stands.ensures ∙ c.if-stands.false) (or_of _ _ _ _ _ c.stands-2.ensures c.stands-3.ensures c.if-stands-2.true)

pub returns : goal.returns
unfolding spelled listed
returns c = end_one _ _ c.requires (sym c.is_name_char.ensures ∙ c.if-is_name_char.false) c.if-text-at-ne36.false (sym c.stands.ensures ∙ c.if-stands.false) (or_of _ _ _ _ _ c.stands-2.ensures c.stands-3.ensures c.if-stands-2.false)
