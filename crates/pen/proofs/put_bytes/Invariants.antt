-- `put_bytes` meets its contract. The loop's invariant: the bytes so far are written.
-- Assumes nothing.
use lib.ListN.{take}
use Rattle.pen.specs.Writing.{Puts}
use Rattle.pen.proofs.put_bytes.Given as goal

abbrev pub invariant-loop-byte : goal.invariant-loop-byte
invariant-loop-byte l = Puts (take l.byte-index l.bytes) l.initial.out l.at l.out l.end
