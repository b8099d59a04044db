-- `statements_tally` meets its contract. The loop's invariant, `Summed`: the first i records are tallied.
-- Assumes nothing.
use native.Mathlib.Omega.{arith}
use mathlib.Core.Path.{◌∙◌, ap}
use borrow.Author.Rules.{rules}
use Rattle.missing.specs.Tallies.{statement_tally, statements_tally}
use Rattle.missing.proofs.PartTallies.{record_long}
use Rattle.missing.proofs.TallyLaws.{summed_none, summed_on, summed_all}
use Rattle.missing.proofs.statements_tally.Goals as goal

pub loop-i-init : goal.loop-i-init
loop-i-init c = summed_none _ _

pub statement_tally-one-requires : goal.statement_tally-one-requires
statement_tally-one-requires c = (record_long _ _ _ c.loop-i-test.true c.record_at.ensures, search rules)

pub loop-i-preserved : goal.loop-i-preserved
loop-i-preserved c =
    let a = c.args in
    summed_on _ _ _ _ c.loop-i.invariant c.loop-i-test.true _ _
    (c.statement_tally-one.ensures.0 ∙ ap (statement_tally a.names a.commands a.g.now) c.record_at.ensures) c.statement_tally-one.ensures.1 c.join-all.ensures

pub returns : goal.returns
unfolding statements_tally
returns c = let (e, l) = summed_all _ _ _ _ c.loop-i.invariant c.loop-i-test.false in (e, omega arith)
