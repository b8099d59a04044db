-- The loop's invariant, `Numbering`: what is counted and what is left ahead; its measure is what is left of the text.
-- Assumes nothing.
use Prim.Native.Nat.{◌-◌}
use lib.ListN.{length}
use Rattle.clauses.proofs.Turns.{Numbering}
use Rattle.clauses.proofs.number_ahead.Given as goal

abbrev pub invariant-loop-word : goal.invariant-loop-word
invariant-loop-word l = Numbering l.text l.counted l.stops l.at l.n l.from

abbrev pub decreases-loop-word : goal.decreases-loop-word
decreases-loop-word l = length l.text - l.from
