-- `first_clauses`: the firsts of the states before q.
-- Assumes nothing.
use native.Mathlib.Omega.{arith}
use Rattle.blocks.proofs.ClauseLaws.{firsts_start, firsts_more, firsts_end}
use Rattle.blocks.proofs.clauses.first_clauses.Goals as goal

pub loop-q-init : goal.loop-q-init
loop-q-init c = (omega (arith, c.requires.0, c.in_fours-s.ensures), firsts_start _ _)

pub loop-q-preserved : goal.loop-q-preserved
loop-q-preserved c = (c.loop-q.invariant.0, firsts_more _ _ _ _ _ _ c.loop-q.invariant.1 c.in_fours-s.ensures c.loop-q-test.true c.loop-q.invariant.0 c.count_sum.ensures.0)

pub returns : goal.returns
returns c = firsts_end _ _ _ _ _ c.loop-q.invariant.1 c.in_fours-s.ensures (omega (arith, c.loop-q-test.false))
