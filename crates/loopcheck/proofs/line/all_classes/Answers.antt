-- A shift of 1 by K, less 1, fits a byte since K is at most 8.
-- Assumes nothing.
use native.Mathlib.Omega.{arith}
use Rattle.loopcheck.proofs.Asking.{low_bits}
use Rattle.loopcheck.proofs.line.all_classes.Goals as goal

pub overflow_sub-result : goal.overflow_sub-result
overflow_sub-result c = let (e, l, m) = low_bits c.args.k c.requires in omega (arith, e)

pub overflow_cast-result : goal.overflow_cast-result
overflow_cast-result c = let (e, l, m) = low_bits c.args.k c.requires in omega (arith, e)

pub returns : goal.returns
returns c = let (e, l, m) = low_bits c.args.k c.requires in omega (arith, e)
