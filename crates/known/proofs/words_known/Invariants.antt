-- `words_known` meets its contract. The loop's invariant, `Going`: all words are known where those from a place on are, in the state that they stand in.
-- Assumes nothing.
use Prim.Native.Nat.{◌-◌}
use mathlib.Core.Path.{◌≡◌}
use lib.ListN.{length}
use Rattle.lists.specs.Lent.{lists_of}
use Rattle.own.specs.Held.{all_names}
use Rattle.known.proofs.RoleLaws.{Going}
use Rattle.known.proofs.words_known.Given as goal

abbrev pub invariant-loop-held : goal.invariant-loop-held
invariant-loop-held l =
    (length l.actions ≡ 16384)
    × Going l.text (lists_of l.lists) (all_names l.text l.own l.held.count 2 26 l.held.rest) l.actions l.scope.count l.scope.rest l.scope.referring l.before l.at

abbrev pub decreases-loop-held : goal.decreases-loop-held
decreases-loop-held l = length l.text - l.at
