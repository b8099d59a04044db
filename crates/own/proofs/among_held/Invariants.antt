-- `among_held` meets its contract. The loop's invariant: the word is looked for among the names from i on, the first of which has the number i.
-- Assumes nothing.
use mathlib.Core.Path.{◌≡◌}
use Rattle.model.specs.Words.{listed}
use Rattle.lists.specs.Lent.{found_from}
use Rattle.lists.proofs.TableLaws.{left}
use Rattle.own.specs.Held.{held}
use Rattle.own.proofs.among_held.Given as goal

abbrev pub invariant-loop-i : goal.invariant-loop-i
invariant-loop-i l = found_from 0 (listed 0 l.count (held l.text l.table)) l.word ≡ found_from l.i (left (held l.text l.table) l.count l.i) l.word
