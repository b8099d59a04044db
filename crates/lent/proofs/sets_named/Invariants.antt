-- `sets_named` meets its contract. The loop's invariant: every set's bits have names where those of the classes from i on do.
-- Assumes nothing.
use mathlib.Core.Path.{◌≡◌}
use Rattle.model.specs.Words.{every}
use Rattle.naming.specs.NameLists.{bits_named}
use Rattle.lists.specs.Lent.{sets_in, Count}
use Rattle.lists.proofs.TableLaws.{left}
use Rattle.lists.proofs.ListLaws.{set_in}
use Rattle.lent.proofs.sets_named.Given as goal

abbrev pub invariant-loop-i : goal.invariant-loop-i
invariant-loop-i l = Count l.classes 36 l.n × (every (bits_named l.names) (sets_in l.classes) ≡ every (bits_named l.names) (left (set_in l.classes) l.n l.i))
