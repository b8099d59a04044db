-- `stands_again` meets its contract. The loop's invariant, `Searching`: the name stands behind its record where it does from record j on.
-- Assumes nothing.
use Prim.Native.Nat.{◌/◌}
use lib.ListN.{length}
use Rattle.lists.specs.Lent.{name_record}
use Rattle.lists.proofs.TableLaws.{Searching}
use Rattle.lent.proofs.stands_again.Given as goal

abbrev pub invariant-loop-j : goal.invariant-loop-j
invariant-loop-j l = Searching (name_record l.size l.list) (length l.list / l.size) l.i l.name l.n l.j
