-- `comes_back`: the walk so far, `Walking`: after so many moves it is at a state, and has not been at q again.
-- Assumes nothing.
use Rattle.loops.proofs.WalkLaws.{Walking}
use Rattle.loops.proofs.chase.comes_back.Given as goal

abbrev pub invariant-loop : goal.invariant-loop
invariant-loop l = Walking l.table.to l.n l.q l.at l.counter
