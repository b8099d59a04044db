-- `held_differ` meets its contract. The loop's invariant: no name stands twice where none of those from entry i on does.
-- Assumes nothing.
use mathlib.Core.Path.{◌≡◌}
use Rattle.model.specs.Words.{listed}
use Rattle.naming.specs.NameLists.{none_twice}
use Rattle.lists.proofs.TableLaws.{left}
use Rattle.own.specs.Held.{held}
use Rattle.differing.proofs.held_differ.Given as goal

abbrev pub invariant-loop-i : goal.invariant-loop-i
invariant-loop-i l = none_twice (listed 0 l.count (held l.text l.table)) ≡ none_twice (left (held l.text l.table) l.count l.i)
