-- `note` meets its contract: one level is marked, or none.
-- Assumes nothing.
use Rattle.recognised.proofs.Watches.{noted_here, noted_past}
use Rattle.recognised.proofs.note.Goals as goal

pub returns-then-level-marks : goal.returns-then-level-marks
returns-then-level-marks c = noted_here _ _ _ _ c.if-level-marks.true c.seen_after.ensures

pub returns-else-level-marks : goal.returns-else-level-marks
returns-else-level-marks c = noted_past _ _ _ c.if-level-marks.false
