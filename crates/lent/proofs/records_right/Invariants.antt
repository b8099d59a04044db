-- `records_right` meets its contract. The loop's invariant: every record is that of a name where those from i on are.
-- Assumes nothing.
use mathlib.Core.Path.{◌≡◌}
use Rattle.model.specs.Words.{every}
use Rattle.naming.specs.NameLists.{records_in, record_right}
use Rattle.lists.specs.Lent.{name_record, Count}
use Rattle.lists.proofs.TableLaws.{left}
use Rattle.lent.proofs.records_right.Given as goal

abbrev pub invariant-loop-i : goal.invariant-loop-i
invariant-loop-i l = Count l.list l.size l.n × (every record_right (records_in l.size l.list) ≡ every record_right (left (name_record l.size l.list) l.n l.i))
