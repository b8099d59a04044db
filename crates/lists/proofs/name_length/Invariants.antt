-- `name_length` meets its contract. The loop's invariant, `Reading`: the first n bytes are characters, and those behind them are still to be read.
-- Assumes nothing.
use Rattle.lists.proofs.RecordLaws.{Reading}
use Rattle.lists.proofs.name_length.Given as goal

abbrev pub invariant-loop-n : goal.invariant-loop-n
invariant-loop-n l = Reading l.bytes l.n
