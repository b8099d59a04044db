-- `statement_starts`: the starts of the action clauses before a, and where the last of them ends.
-- Assumes nothing.
use native.Mathlib.Omega.{arith}
use Rattle.blocks.proofs.ClauseLaws.{froms_start, froms_more, froms_end}
use Rattle.blocks.proofs.clauses.statement_starts.Goals as goal

pub loop-a-init : goal.loop-a-init
loop-a-init c = ((omega (arith, c.requires, c.in_fours-n.ensures), omega arith), froms_start _)

pub overflow_add-from : goal.overflow_add-from
overflow_add-from c = omega (arith, c.loop-a.invariant.1.small, c.count_at.ensures.1)

pub loop-a-preserved : goal.loop-a-preserved
loop-a-preserved c = ((c.loop-a.invariant.0.0, omega arith), froms_more _ _ _ _ _ c.loop-a.invariant.1 (omega arith) c.count_at.ensures.0 c.count_at.ensures.1)

pub returns : goal.returns
returns c = froms_end _ _ _ _ _ c.loop-a.invariant.1 c.in_fours-n.ensures c.loop-a.invariant.0.1 c.loop-a-test.false
