-- `clause_holds` meets its contract: the guard that begins at the clause's place, on the sets.
-- Assumes nothing.
use Rattle.node.proofs.ProbeLaws.{clause_told}
use Rattle.node.proofs.probing.clause_holds.Goals as goal

pub returns : goal.returns
returns c = clause_told _ _ _ _ _ _ _ c.body.ensures c.body-2.ensures c.guard_place-place.ensures c.guard_true.ensures
