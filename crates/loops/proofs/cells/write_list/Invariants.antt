-- `write_list`: the pairs of the cells so far that k chooses are written at the head, `Writing`.
-- Assumes nothing.
use Rattle.loops.proofs.WritingLaws.{Writing}
use Rattle.loops.proofs.cells.write_list.Given as goal

abbrev pub invariant-loop-i : goal.invariant-loop-i
invariant-loop-i l = Writing l.cells.classes l.cells.names l.cells.count l.k l.initial.out l.out l.at l.i
