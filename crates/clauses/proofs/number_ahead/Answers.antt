-- The loop's invariant, `Numbering`: what is counted and what is left ahead; its measure is what is left of the text.
-- Assumes nothing.
use native.Mathlib.Omega.{arith}
use mathlib.Core.Path.{◌∙◌}
use Rattle.clauses.proofs.Turns.{contained, numbering_start, numbering_end, numbering_stop, numbering_more, numbering_small}
use Rattle.clauses.proofs.number_ahead.Goals as goal

pub loop-word-init : goal.loop-word-init
loop-word-init c = numbering_start _ _ _ _

pub returns-then-kind-eq-END : goal.returns-then-kind-eq-END
returns-then-kind-eq-END c = numbering_end c.loop-word.invariant c.next_word-word.ensures c.requires c.if-kind-eq-END.true

pub returns-then-contains : goal.returns-then-contains
returns-then-contains c = numbering_stop c.loop-word.invariant c.next_word-word.ensures c.if-kind-eq-END.false (c.contains.ensures.value ∙ contained c.args.stops.now c.next_word-word.result.kind) c.if-contains.true

pub tick-n-requires : goal.tick-n-requires
tick-n-requires c =
    let s = numbering_small c.loop-word.invariant c.next_word-word.ensures c.if-kind-eq-END.false in
    omega arith

pub loop-word-smaller : goal.loop-word-smaller
loop-word-smaller c =
    let w = c.next_word-word.ensures in
    let h = c.if-kind-eq-END.false in
    omega (arith, w.onward, w.moves h, w.inside h)

pub loop-word-preserved : goal.loop-word-preserved
loop-word-preserved c =
    numbering_more c.loop-word.invariant c.next_word-word.ensures c.if-kind-eq-END.false (c.contains.ensures.value ∙ contained c.args.stops.now c.next_word-word.result.kind) c.if-contains.false
    (c.contains-in-loop-word.ensures.value ∙ contained c.args.counted.now c.next_word-word.result.kind) c.tick-n.ensures
