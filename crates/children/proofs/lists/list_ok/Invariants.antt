-- `list_ok` meets its contract. The loop goes from the last pair down; its invariant, `Checked`: the children from pair i on are right.
-- Assumes nothing.
use Rattle.children.proofs.ListLaws.{Checked}
use Rattle.children.proofs.lists.list_ok.Given as goal

abbrev pub invariant-loop-i : goal.invariant-loop-i
invariant-loop-i l = Checked l.classes l.list l.i
