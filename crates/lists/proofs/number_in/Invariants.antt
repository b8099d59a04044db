-- `number_in` meets its contract. The loop's invariant: the name is looked for among the records from i on, the first of which has the number i.
-- Assumes nothing.
use mathlib.Core.Path.{◌≡◌}
use Rattle.naming.specs.NameLists.{records_in, padded}
use Rattle.lists.specs.Lent.{name_record, found_from, Count}
use Rattle.lists.proofs.TableLaws.{left}
use Rattle.lists.proofs.number_in.Given as goal

abbrev pub invariant-loop-i : goal.invariant-loop-i
invariant-loop-i l =
    Count l.list l.size l.n × (found_from 0 (records_in l.size l.list) (padded l.word) ≡ found_from l.i (left (name_record l.size l.list) l.n l.i) (padded l.word))
