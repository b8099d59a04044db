-- `prefixed::walks::order_guards` meets its contract. The loop's invariant is `Underway`; the measure is what is left of the text.
-- Assumes nothing.
use native.Mathlib.Omega.{arith}
use mathlib.Core.Path.{sym}
use borrow.Author.Rules.{rules}
use Rattle.prefixed.proofs.Underway.{underway_first, underway_less, underway_low, underway_more, underway_last}
use Rattle.prefixed.proofs.walks.order_guards.Goals as goal

pub loop-keys-init : goal.loop-keys-init
loop-keys-init c = underway_first _ _ _ _ _ (search rules)

pub returns-then-kind-eq-END : goal.returns-then-kind-eq-END
returns-then-kind-eq-END c = underway_last _ _ _ _ _ _ _ _ _ _ _ c.loop-keys.invariant c.next_word-word.ensures c.if-kind-eq-END.true

pub slice_bounds-turn_at-end : goal.slice_bounds-turn_at-end
slice_bounds-turn_at-end c = sym c.loop-keys.invariant.held

pub turn_at-stand-requires : goal.turn_at-stand-requires
turn_at-stand-requires c =
    let g = c.well_formed.0.1 in (
      c.loop-keys.invariant.safe,
      underway_low _ _ _ _ _ _ _ _ _ _ _ c.loop-keys.invariant c.next_word-word.ensures c.if-kind-eq-END.false (omega arith),
    )

pub loop-keys-smaller : goal.loop-keys-smaller
loop-keys-smaller c = underway_less _ _ _ _ _ _ _ _ _ _ _ c.loop-keys.invariant c.next_word-word.ensures c.if-kind-eq-END.false

pub loop-keys-preserved : goal.loop-keys-preserved
loop-keys-preserved c =
    underway_more _ _ _ _ _ _ _ _ _ _ _ c.loop-keys.invariant c.next_word-word.ensures _ _ _ _ c.if-kind-eq-END.false c.mark_of.ensures
    (search rules)
    (search rules)
    c.turn_at-stand.ensures
