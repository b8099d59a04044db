-- `atoms::braced` meets its contract. The loop's invariant: the names from here on, added to those so far, are those from the start.
-- The measure is what is left of the text. Assumes nothing.
use Prim.Native.Nat.{◌-◌}
use mathlib.Core.Path.{◌≡◌}
use lib.ListN.{length}
use Rattle.naming.specs.NameLists.{records_in}
use Rattle.words.specs.Scanning.{tokens_from}
use Rattle.ordering.specs.Ordering.{braced}
use Rattle.atoms.proofs.braced.Given as goal

abbrev pub invariant-loop-at : goal.invariant-loop-at
invariant-loop-at l = braced (records_in 32 l.names) (tokens_from l.text l.at) 0 ≡ braced (records_in 32 l.names) (tokens_from l.text l.i) l.set

abbrev pub decreases-loop-at : goal.decreases-loop-at
decreases-loop-at l = length l.text - l.i
