-- `put_part` writes one statement after the other, and `put_if` an if with its parts: a law for each way out.
-- Whoever writes the rest of a list from a turn of the loop on has written the list, and each turn the rest gets shorter. With each call the bytes
-- get fewer, but for the call of `put_if`, whose measure is one less on the same bytes.
-- Assumes nothing.
use Prim.Native.Nat.{◌+◌, ◌*◌}
use lib.ListN.{length}
use Rattle.lists.specs.Lent.{lists_of}
use Rattle.bodytext.proofs.PartLaws.{Putting}
use Rattle.bodytext.proofs.+put_if_put_part.Given as goal

abbrev pub decreases-put_if : goal.decreases-put_if
decreases-put_if l = 2 * length l.part.now

abbrev pub decreases-put_part : goal.decreases-put_part
decreases-put_part l = 2 * length l.part.now + 1

abbrev pub invariant-put_part-loop-command : goal.invariant-put_part-loop-command
invariant-put_part-loop-command l = Putting l.g l.part l.level l.own (lists_of l.lists) l.initial.out l.at l.rest l.out l.end

abbrev pub decreases-put_part-loop-command : goal.decreases-put_part-loop-command
decreases-put_part-loop-command l = length l.rest
