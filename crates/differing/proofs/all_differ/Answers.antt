-- `all_differ` meets its contract. The loop's invariant: no name stands twice where none of those from a place on does.
-- Assumes nothing.
use mathlib.Core.Path.{refl, sym, ◌∙◌}
use Rattle.own.proofs.LookingUp.{differ_broken, differ_last, differ_met, differ_on, differ_less}
use Rattle.differing.proofs.all_differ.Goals as goal

pub loop-table-init : goal.loop-table-init
loop-table-init c = (c.empty_table-table.ensures, refl)

pub returns-then-not-held_differ : goal.returns-then-not-held_differ
returns-then-not-held_differ c = sym (c.loop-table.invariant.1 ∙ differ_broken _ _ _ _ _ _ _ c.hold-holding.ensures _ c.held_differ.ensures (c.if-not-held_differ.true))

pub returns-then-holding-lt8192 : goal.returns-then-holding-lt8192
returns-then-holding-lt8192 c =
    sym (c.loop-table.invariant.1
    ∙ differ_last _ _ _ _ _ _ _ c.hold-holding.ensures _ c.held_differ.ensures (c.if-not-held_differ.false) c.if-holding-lt8192.true (c.hold-holding.auto.table ∙ c.loop-table.invariant.0))

pub returns-then-not-none_held : goal.returns-then-not-none_held
returns-then-not-none_held c =
    sym (c.loop-table.invariant.1
    ∙ differ_met _ _ _ _ _ _ _ c.hold-holding.ensures _ c.held_differ.ensures (c.if-not-held_differ.false) _ c.none_held.ensures (c.if-not-none_held.true))

pub loop-table-smaller : goal.loop-table-smaller
loop-table-smaller c = differ_less _ _ _ _ _ _ _ c.hold-holding.ensures c.if-holding-lt8192.false

pub loop-table-preserved : goal.loop-table-preserved
loop-table-preserved c = (
  c.hold-holding.auto.table ∙ c.loop-table.invariant.0,
  c.loop-table.invariant.1
      ∙ differ_on _ _ _ _ _ _ _ c.hold-holding.ensures _ c.held_differ.ensures (c.if-not-held_differ.false) _ c.none_held.ensures (c.if-not-none_held.false),
)
