-- The records left fall from a guard to its operands, the operators left on the path from an operator to each operand.
use Prim.Native.Nat.{◌+◌, ◌-◌, ◌/◌}
use lib.ListN.{length}
use Rattle.node.proofs.values.+guard_holds_operator_holds.Given as goal

abbrev pub decreases-guard_holds : goal.decreases-guard_holds
decreases-guard_holds l = l.depth + (length l.g.now / 8 - l.from)

abbrev pub decreases-operator_holds : goal.decreases-operator_holds
decreases-operator_holds l = l.depth + (length l.g.now / 8 - l.from)
