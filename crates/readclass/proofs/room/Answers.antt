use Prim.Native.Nat.{ℕ}
use lib.ListN.{length-replicate}
use Rattle.readclass.proofs.room.Goals as goal

pub returns : goal.returns
returns c = length-replicate {A = ℕ} 1310721 0
