-- `part_ok` reads a part one statement at a time, and `statement_ok` goes by the record: a law for each way out.
-- With each call the bytes get fewer, but for the call of `statement_ok`, whose measure is one less on the same bytes.
-- Assumes nothing.
-- what `part-ok` is given at the measure t, and what a call of it asks below t
-- what `statement-ok` is given at the measure t, and what a call of it asks below t
use Prim.Native.Nat.{◌+◌, ◌*◌}
use lib.ListN.{length}
use Rattle.bodies.proofs.statements.+part_ok_statement_ok.Given as goal

abbrev pub decreases-part_ok : goal.decreases-part_ok
decreases-part_ok l = 2 * length l.part.now + 1

abbrev pub decreases-statement_ok : goal.decreases-statement_ok
decreases-statement_ok l = 2 * length l.part.now
