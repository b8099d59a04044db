-- As of the states.
-- Assumes nothing.
use Prim.Native.Nat.{◌-◌}
use lib.ListN.{length}
use Rattle.clauses.proofs.Turns.{Laying, actions_made}
use Rattle.clauses.proofs.write_actions.Given as goal

abbrev pub invariant-loop-word : goal.invariant-loop-word
invariant-loop-word l = Laying (actions_made l.commands) l.text l.initial.out l.at l.out l.end l.from

abbrev pub decreases-loop-word : goal.decreases-loop-word
decreases-loop-word l = length l.text - l.from
