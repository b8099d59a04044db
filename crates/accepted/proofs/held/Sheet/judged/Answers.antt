-- `judged`: where the judge accepts, the sheet stands at the places that it gives; where it refuses, so does this.
-- Assumes nothing.
use Rattle.sheet.proofs.AskedLaws.{stands}
use Rattle.accepted.proofs.held.Sheet.judged.Goals as goal

pub invariant_of-result : goal.invariant_of-result
invariant_of-result c = record { stands = stands _ _ c.judge.ensures _ c.in_ok-places.was; small = λ i. (c.type_inv.bytes i).fits }
