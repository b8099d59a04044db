-- `opening` meets its contract, operator by operator.
-- Assumes nothing.
use mathlib.Core.Logic.{inl, inr}
use Rattle.model.specs.Words.{listed}
use Rattle.grammar.specs.Words.{spelled}
use Rattle.guardtext.specs.GuardTexts.{opening}
use Rattle.guardtext.proofs.opening.Goals as goal

pub returns-in-Both : goal.returns-in-Both
unfolding opening spelled listed
returns-in-Both c = elim c.in-Both.is [ inl e ↦ rw e | inr e ↦ rw e ]

pub returns-in-Opposite : goal.returns-in-Opposite
unfolding opening spelled listed
returns-in-Opposite c = rw c.in-Opposite.is
