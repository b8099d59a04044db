-- `union` meets its contract. The loop's invariant: `all` is the union of the sets before.
-- Assumes nothing.
use mathlib.Core.Path.{◌≡◌}
use Rattle.children.specs.NameSets.{union_of}
use Rattle.children.proofs.crews.union.Given as goal

abbrev pub invariant-loop-set : goal.invariant-loop-set
invariant-loop-set l = l.all ≡ union_of l.fn.sets l.set-index
