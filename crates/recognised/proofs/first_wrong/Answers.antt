use native.Mathlib.Omega.{arith}
use borrow.Author.Rules.{rules}
use mathlib.Core.Path.{◌∙◌}
use Rattle.recognised.proofs.Walks.{walk_none, walk_stop, walk_fine, walk_on}
use Rattle.recognised.proofs.first_wrong.Goals as goal

pub loop-next-init : goal.loop-next-init
loop-next-init c = (search rules, walk_none _ _)

pub returns-in_default : goal.returns-in_default
returns-in_default c =
    walk_stop _ _ _ _ _ _ c.loop-next.invariant.1 _ _ _ c.next_word-word.ensures _ c.had_else-had.ensures _ c.step.ensures
    c.in_default.is

pub returns-then-kind-eq-END : goal.returns-then-kind-eq-END
returns-then-kind-eq-END c =
    walk_fine _ _ _ _ _ _ c.loop-next.invariant.1 _ _ _ c.next_word-word.ensures _ c.had_else-had.ensures _ c.step.ensures _
    c.in-Some.is c.if-kind-eq-END.true

pub behind-opened-requires : goal.behind-opened-requires
behind-opened-requires c =
    let n = c.next_word-word.ensures in
    let i = c.loop-next.invariant.1 in
    let o = n.onward in
    let m = n.moves c.if-kind-eq-END.false in
    let x = i.few_brackets in
    let y = i.few_ifs in
    (omega (arith, o, m, x), omega (arith, o, m, y))

pub loop-next-smaller : goal.loop-next-smaller
loop-next-smaller c =
    let n = c.next_word-word.ensures in
    let o = n.onward in
    let m = n.moves c.if-kind-eq-END.false in
    let i = n.inside c.if-kind-eq-END.false in
    omega (arith, o, m, i)

pub loop-next-preserved : goal.loop-next-preserved
loop-next-preserved c =
    let l = c.loop-next.invariant in (
      c.note.ensures.as_many ∙ l.0,
      walk_on _ _ _ _ _ _ l.1 _ _ _ c.next_word-word.ensures _ c.had_else-had.ensures _ c.step.ensures _ _ _
          c.in-Some.is c.if-kind-eq-END.false c.behind-opened.ensures c.begun-from.ensures _ c.note.ensures,
    )
