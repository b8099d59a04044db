-- `held_again` meets its contract. The loop's invariant, `Searching`: the name stands behind its place where it does from entry j on.
-- Assumes nothing.
use Rattle.lists.proofs.TableLaws.{Searching}
use Rattle.own.specs.Held.{held}
use Rattle.differing.proofs.held_again.Given as goal

abbrev pub invariant-loop-j : goal.invariant-loop-j
invariant-loop-j l = Searching (held l.text l.table) l.count l.i l.name l.count l.j
