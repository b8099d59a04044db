-- `put_from` and `put_operator` write the text of the guard that the rules read: a law for each way out. The records left fall from a guard
-- to its operands, the operators left on the path from an operator to each operand.
-- Assumes nothing.
use Prim.Native.Nat.{◌+◌, ◌-◌, ◌/◌}
use lib.ListN.{length}
use Rattle.guardtext.proofs.+put_from_put_operator.Given as goal

abbrev pub decreases-put_from : goal.decreases-put_from
decreases-put_from l = let from = l.from in let depth = l.depth in depth + (length l.g.now / 8 - from)

abbrev pub decreases-put_operator : goal.decreases-put_operator
decreases-put_operator l = let from = l.from in let depth = l.depth in depth + (length l.g.now / 8 - from)
