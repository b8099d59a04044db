use Rattle.kinds.proofs.Laws.{a_fixed_word, a_name, no_word}
use mathlib.Core.Path.{sym, ◌∙◌}
use Rattle.kinds.proofs.kind_of.Goals as goal

pub returns-in-Some : goal.returns-in-Some
returns-in-Some c = let e = c.in-Some.ensures in a_fixed_word _ _ e.0 e.1

pub returns-then-is_name : goal.returns-then-is_name
returns-then-is_name c = a_name _ c.in_default.ensures (sym c.is_name.ensures ∙ c.if-is_name.true)

pub returns-else-is_name : goal.returns-else-is_name
returns-else-is_name c = no_word _ c.in_default.ensures (sym c.is_name.ensures ∙ c.if-is_name.false)
