use Prim.Native.Nat.{ℕ}
use lib.ListN.{length-replicate}
use Rattle.writeclass.proofs.text_room.Goals as goal

pub returns : goal.returns
returns c = length-replicate {A = ℕ} 1259860 0
