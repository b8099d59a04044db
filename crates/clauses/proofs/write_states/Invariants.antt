-- The loop's invariant, `Laying`: whoever writes the records that are left has written all; its measure is what is left of the text.
-- Assumes nothing.
use Prim.Native.Nat.{◌-◌}
use lib.ListN.{length}
use Rattle.clauses.proofs.Turns.{Laying, states_made}
use Rattle.clauses.proofs.write_states.Given as goal

abbrev pub invariant-loop-word : goal.invariant-loop-word
invariant-loop-word l = Laying states_made l.text l.initial.out l.at l.out l.end l.from

abbrev pub decreases-loop-word : goal.decreases-loop-word
decreases-loop-word l = length l.text - l.from
