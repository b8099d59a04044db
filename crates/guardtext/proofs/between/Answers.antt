-- `between` meets its contract, operator by operator.
-- Assumes nothing.
use Rattle.model.specs.Words.{listed}
use Rattle.grammar.specs.Words.{spelled}
use Rattle.guardtext.specs.GuardTexts.{between}
use Rattle.guardtext.proofs.between.Goals as goal

pub returns-in-Both : goal.returns-in-Both
unfolding between spelled listed
returns-in-Both c = rw c.in-Both.is

pub returns-in-Either : goal.returns-in-Either
unfolding between spelled listed
returns-in-Either c = rw c.in-Either.is

pub returns-in-Opposite : goal.returns-in-Opposite
unfolding between
returns-in-Opposite c = rw c.in-Opposite.is
