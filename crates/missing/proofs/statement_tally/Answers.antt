-- `statement_tally` meets its contract, by what the record is.
-- Assumes nothing.
use native.Mathlib.Omega.{arith}
use mathlib.Core.Path.{sym, ◌∙◌}
use Rattle.missing.proofs.PartTallies.{front_told}
use Rattle.missing.proofs.statement_tally.Goals as goal

pub returns-in-Do : goal.returns-in-Do
returns-in-Do c = (front_told _ _ _ _ c.requires.0 (sym c.in-Do.is ∙ c.statement_record-front.ensures), omega arith)

pub returns-in-If : goal.returns-in-If
returns-in-If c = (c.guard_tally.ensures.0 ∙ front_told _ _ _ _ c.requires.0 (sym c.in-If.is ∙ c.statement_record-front.ensures), c.guard_tally.ensures.1)

pub returns-in-MoveTo : goal.returns-in-MoveTo
returns-in-MoveTo c = (front_told _ _ _ _ c.requires.0 (sym c.in-MoveTo.is ∙ c.statement_record-front.ensures), omega arith)

pub returns-in-Unknown : goal.returns-in-Unknown
returns-in-Unknown c = (front_told _ _ _ _ c.requires.0 (sym c.in-Unknown.is ∙ c.statement_record-front.ensures), omega arith)
