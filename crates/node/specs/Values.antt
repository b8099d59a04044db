-- What the evaluator answers for a guard that was read: its truth on the sets, and the record after it.
-- Assumes nothing.
use Rattle.std.specs.Prelude.{ℕ, Bool, false, List, Option, Some, None}
use Rattle.records.specs.GuardRecords.{Read, got, broken}
use Rattle.node.specs.Sets.{holds_in}

abbrev pub value_of : List ℕ → Read → Option (Bool × ℕ)
value_of sets (got g e) = Some (holds_in sets g, e)
value_of sets broken = None

-- the truth of the guard that begins at a place; false where none does
unfoldable pub truth_of : List ℕ → Read → Bool
truth_of sets (got g e) = holds_in sets g
truth_of sets broken = false
