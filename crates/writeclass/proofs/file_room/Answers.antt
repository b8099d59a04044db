use Prim.Native.Nat.{ℕ}
use lib.ListN.{length-replicate}
use Rattle.writeclass.proofs.file_room.Goals as goal

pub returns : goal.returns
returns c = length-replicate {A = ℕ} 262145 0
