-- The invariant: the input lies within its buffers.
-- Assumes nothing.
use Rattle.questions.specs.Inputs.{Inside}
use Rattle.questions.proofs.main.Given as goal

abbrev pub invariant-loop : goal.invariant-loop
invariant-loop l = Inside l.s l.chunk l.line
