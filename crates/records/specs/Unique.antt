-- The readings in which this floor's promises are stated tell what the code answers apart, so that each leaves one answer.
-- Assumes nothing.
use Rattle.model.specs.Unique.{TellsApart}
use Rattle.records.specs.Patterns.{pattern_as}
use Rattle.records.specs.Records.{kind_as, operator_as, record_as}

pub record Unique : Type 0 where
  pub patterns : TellsApart pattern_as
  pub kinds : TellsApart kind_as
  pub operators : TellsApart operator_as
  pub guard_records : TellsApart record_as
