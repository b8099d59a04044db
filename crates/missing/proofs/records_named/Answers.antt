-- `records_named` meets its contract. The loop's invariant: the bits of the first i records have names.
-- Assumes nothing.
use mathlib.Core.Path.{sym}
use Rattle.model.proofs.Words.{each_none, each_so_far, each_all, each_broken, passed, not_passed}
use Rattle.missing.specs.Tallies.{records_named}
use mathlib.Core.Path.{ap}
use mathlib.Core.Bool.{not}
use Rattle.missing.proofs.records_named.Goals as goal

pub loop-i-init : goal.loop-i-init
loop-i-init c = each_none _

pub returns-then-not-record_named : goal.returns-then-not-record_named
unfolding records_named
returns-then-not-record_named c = sym (each_broken _ _ _ c.loop-i-test.true (not_passed c.record_named.ensures (ap not c.if-not-record_named.true)))

pub loop-i-preserved : goal.loop-i-preserved
loop-i-preserved c = each_so_far _ _ c.loop-i.invariant (passed c.record_named.ensures (ap not c.if-not-record_named.false))

pub returns : goal.returns
unfolding records_named
returns c = sym (each_all _ _ _ c.loop-i.auto.i-end c.loop-i-test.false c.loop-i.invariant)
