-- The loop goes from the first pair on; its invariant, `Sending`: with what is left to be sent the buffer is as it is to be.
-- Assumes nothing.
use Rattle.records.specs.Patterns.{pattern_as}
use Rattle.running.proofs.SendLaws.{Sending}
use Rattle.running.proofs.send.Given as goal

abbrev pub invariant-loop-i : goal.invariant-loop-i
invariant-loop-i l = Sending l.list (pattern_as l.pattern) l.command l.initial.out l.at l.out l.end l.i
