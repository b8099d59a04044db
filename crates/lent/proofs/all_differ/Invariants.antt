-- `all_differ` meets its contract. The loop's invariant: no name stands twice where none of those from record i on does.
-- Assumes nothing.
use mathlib.Core.Path.{◌≡◌}
use Rattle.naming.specs.NameLists.{records_in, none_twice}
use Rattle.lists.specs.Lent.{name_record, Count}
use Rattle.lists.proofs.TableLaws.{left}
use Rattle.lent.proofs.all_differ.Given as goal

abbrev pub invariant-loop-i : goal.invariant-loop-i
invariant-loop-i l = Count l.list l.size l.n × (none_twice (records_in l.size l.list) ≡ none_twice (left (name_record l.size l.list) l.n l.i))
