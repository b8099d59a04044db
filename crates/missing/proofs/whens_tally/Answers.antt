-- `whens_tally` meets its contract. The loop's invariant, `Summed`: the guards of the first w clauses are tallied.
-- Assumes nothing.
use native.Mathlib.Omega.{arith}
use mathlib.Core.Path.{◌∙◌, ap}
use Rattle.missing.specs.Tallies.{place_tally, whens_tally}
use Rattle.missing.proofs.TallyLaws.{summed_none, summed_on, summed_all}
use Rattle.missing.proofs.whens_tally.Goals as goal

pub loop-w-init : goal.loop-w-init
loop-w-init c = summed_none _ _

pub loop-w-preserved : goal.loop-w-preserved
loop-w-preserved c =
    let a = c.args in
    summed_on _ _ _ _ c.loop-w.invariant c.loop-w-test.true _ _
    (c.guard_tally-one.ensures.0 ∙ ap (place_tally a.names a.g.now) c.guard_place.ensures) c.guard_tally-one.ensures.1 c.join-all.ensures

pub returns : goal.returns
unfolding whens_tally
returns c = let (e, l) = summed_all _ _ _ _ c.loop-w.invariant c.loop-w-test.false in (e, omega arith)
