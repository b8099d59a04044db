-- So many zeros are so long.
-- Assumes nothing.
use Prim.Native.Nat.{ℕ}
use lib.ListN.{length-replicate}
use Rattle.strings.proofs.blank.Goals as goal

pub returns : goal.returns
returns c = length-replicate {A = ℕ} 524288 0
