-- `occupy` meets its contract. The loop goes from the last pair down; its invariant, `Down`: the 8 sets show the children from pair i on.
-- Assumes nothing.
use Rattle.children.proofs.CrewLaws.{Down}
use Rattle.children.proofs.crews.occupy.Given as goal

abbrev pub invariant-loop-i : goal.invariant-loop-i
invariant-loop-i l = Down l.list l.sets l.i
