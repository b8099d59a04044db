-- `put_commas` meets its contract. The loop's invariant: whoever writes the names from i on has written all.
-- Assumes nothing.
use Rattle.pen.proofs.Puts.{Going}
use Rattle.writings.specs.Layout.{commas}
use Rattle.spelling.specs.Spelling.{names_from}
use Rattle.spelling.proofs.put_commas.Given as goal

abbrev pub invariant-loop-i : goal.invariant-loop-i
invariant-loop-i l = Going (commas (names_from l.names l.set l.from)) l.initial.out l.at (commas (names_from l.names l.set l.i)) l.out l.end
