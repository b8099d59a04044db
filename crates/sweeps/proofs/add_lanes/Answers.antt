-- `add_lanes`: the word has the lanes too; a target that is no state has no word.
-- Assumes nothing.
use native.Mathlib.Omega.{arith}
use Rattle.sweeps.proofs.SweepLaws.{added, added_none}
use Rattle.sweeps.proofs.add_lanes.Goals as goal

pub returns-then-t-lt32 : goal.returns-then-t-lt32
returns-then-t-lt32 c = added _ _ _ _ c.requires.0 c.requires.1 (omega arith) c.if-t-lt32.true

pub returns-else-t-lt32 : goal.returns-else-t-lt32
returns-else-t-lt32 c = added_none _ _ _ _ c.if-t-lt32.false
