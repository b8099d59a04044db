-- A number of 32 bits has at most 32 set bits; an answer that is no loop has no list.
-- Assumes nothing.
use native.Mathlib.Omega.{arith}
use lib.Count.{ones-le}
use Rattle.loopcheck.proofs.line.children_in.Goals as goal

pub overflow_cast-result : goal.overflow_cast-result
overflow_cast-result c = omega (arith, ones-le 32 c.in-Loop.k (omega arith))

pub returns-in-Loop : goal.returns-in-Loop
returns-in-Loop c = rw (c.in-Ok.is, c.in-Loop.is)
