use Rattle.laying.proofs.LayingLaws.{tabling_none, tabling_more, tabling_all}
use native.Mathlib.Omega.{arith}
use Rattle.laying.proofs.write_table.Goals as goal

pub loop-start-init : goal.loop-start-init
loop-start-init c = tabling_none _ _ (omega arith)

pub loop-start-smaller : goal.loop-start-smaller
loop-start-smaller c = let h = c.in-Some.ensures in omega (arith, h.onward, h.inside)

pub loop-start-preserved : goal.loop-start-preserved
loop-start-preserved c = tabling_more _ _ _ _ _ _ _ _ _ c.loop-start.invariant c.in-Some.ensures c.put_name-end.ensures

pub returns : goal.returns
returns c = tabling_all _ _ _ _ _ c.loop-start.invariant c.in_default.ensures
