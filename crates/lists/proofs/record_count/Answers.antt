-- `record_count` meets its contract.
-- Assumes nothing.
use native.Mathlib.Nat.{div-le_self}
use mathlib.Core.Path.{refl}
use Rattle.lists.proofs.record_count.Goals as goal

pub returns : goal.returns
returns c = record { is = refl; small = div-le_self _ _ }
