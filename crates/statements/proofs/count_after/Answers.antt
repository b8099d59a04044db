-- By the kind.
-- Assumes nothing.
use mathlib.Core.Path.{sym, ◌∙◌}
use Rattle.statements.proofs.LookingLaws.{count_more, count_same}
use Rattle.statements.proofs.count_after.Goals as goal

pub returns-then-is_statement : goal.returns-then-is_statement
returns-then-is_statement c = count_more _ _ (sym c.is_statement.ensures ∙ c.if-is_statement.true)

pub returns : goal.returns
returns c = count_same _ _ (sym c.is_statement.ensures ∙ c.if-is_statement.false)
