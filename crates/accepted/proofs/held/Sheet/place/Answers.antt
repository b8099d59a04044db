-- `place` gives the place of that number, and the end past the last.
-- Assumes nothing.
use native.Mathlib.Omega.{arith}
use Rattle.accepted.proofs.ReaderLaws.{place_past}
use Rattle.accepted.proofs.held.Sheet.place.Goals as goal

pub returns-in_default : goal.returns-in_default
returns-in_default c = place_past _ _ c.args.k (omega arith)
