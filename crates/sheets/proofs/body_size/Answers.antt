-- `body_size` meets its contract: at most 8,191 records of at most 8 bytes.
-- Assumes nothing.
use Prim.Native.Nat.{◌%◌}
use native.Mathlib.Nat.{mul-le-mul_left}
use native.Mathlib.Omega.{arith}
use borrow.Author.Rules.{rules}
use Rattle.sheets.proofs.body_size.Goals as goal

pub overflow_mul-result : goal.overflow_mul-result
overflow_mul-result c = let h = mul-le-mul_left (c.args.count % 8192) c.requires in record { fits = omega arith }

pub returns : goal.returns
returns c = let h = mul-le-mul_left (c.args.count % 8192) c.requires in search rules
