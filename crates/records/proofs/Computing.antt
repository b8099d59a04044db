-- One name that opens every definition of the records, and what it rests on, so that a closed question computes: `unfolding computing`.
-- Assumes nothing.
use Rattle.records.specs.Bytes.{record_at, records}
use Rattle.records.specs.GuardRecords.{record_of, guard_record, joined, guard_with, guard_at, operands, guard_from}
use Rattle.model.proofs.Computing.{computing as computing_model}

unfoldable pub computing : Unit {0}
unfolding record_at records record_of guard_record joined guard_with guard_at operands guard_from computing_model
computing = tt
