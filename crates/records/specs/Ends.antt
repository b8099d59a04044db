-- Where a guard that was read ends, as the guard reader answers it.
-- Assumes nothing.
use Rattle.std.specs.Prelude.{ℕ, Option, Some, None}
use Rattle.records.specs.GuardRecords.{Read, got, broken}

abbrev pub end_of : Read → Option ℕ
end_of (got g e) = Some e
end_of broken = None
