-- `record_at` cuts 8 bytes, from 8 times i on.
-- Assumes nothing.
use Prim.Native.Nat.{ℕ, ◌+◌, ◌*◌, ◌-◌}
use native.Mathlib.Omega.{arith}
use mathlib.Core.Path.{◌≡◌, ap}
use lib.ListN.{take, drop}
use Rattle.records.specs.Bytes.{record_at}
use Rattle.records.proofs.words.record_at.Goals as goal

pub returns : goal.returns
unfolding record_at
returns c = ap (λ (n : ℕ). take n (drop (c.args.i * 8) c.args.b.now)) (let e : c.args.i * 8 + 8 - c.args.i * 8 ≡ 8 = omega arith in e)
