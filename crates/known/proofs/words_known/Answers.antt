-- `words_known` meets its contract. The loop's invariant, `Going`: all words are known where those from a place on are, in the state that they stand in.
-- Assumes nothing.
use mathlib.Core.Path.{sym, ◌∙◌}
use borrow.Author.Rules.{rules}
use Rattle.known.proofs.RoleLaws.{going_start, known_end, known_not, known_twice, known_on, known_less}
use Rattle.known.proofs.words_known.Goals as goal

pub loop-held-init : goal.loop-held-init
loop-held-init c = (c.empty_table-actions.ensures, going_start _ _ _ _)

pub returns-then-kind-eq-END : goal.returns-then-kind-eq-END
returns-then-kind-eq-END c = sym (c.loop-held.invariant.1.told ∙ known_end _ _ _ _ _ _ _ _ _ _ c.next_word-word.ensures c.if-kind-eq-END.true)

pub slice_bounds-name-count : goal.slice_bounds-name-count
slice_bounds-name-count c = let h = c.next_word-word.ensures.moves c.if-kind-eq-END.false in search rules

pub slice_bounds-name-start : goal.slice_bounds-name-start
slice_bounds-name-start c = let h = c.next_word-word.ensures.moves c.if-kind-eq-END.false in search rules

pub slice_bounds-name-end : goal.slice_bounds-name-end
slice_bounds-name-end c = let h = c.next_word-word.ensures.inside c.if-kind-eq-END.false in search rules

pub returns-then-not-word_known : goal.returns-then-not-word_known
returns-then-not-word_known c =
    sym (c.loop-held.invariant.1.told
    ∙ known_not _ _ _ _ _ _ _ _ _ _ c.next_word-word.ensures c.if-kind-eq-END.false _ c.word_known.ensures (c.if-not-word_known.true))

pub returns-then-not-actions_differ : goal.returns-then-not-actions_differ
returns-then-not-actions_differ c =
    sym (c.loop-held.invariant.1.told
    ∙ known_twice _ _ _ _ _ _ _ _ _ _ c.next_word-word.ensures c.if-kind-eq-END.false _ c.word_known.ensures (c.if-not-word_known.false) _ c.actions_differ.ensures (c.if-not-actions_differ.true))

pub loop-held-smaller : goal.loop-held-smaller
loop-held-smaller c = known_less _ _ _ _ _ c.next_word-word.ensures c.if-kind-eq-END.false

pub loop-held-preserved : goal.loop-held-preserved
loop-held-preserved c =
    let e = c.entered-scope.ensures in (
      c.entered-scope.auto.actions ∙ c.loop-held.invariant.0,
      record {
        holds = e.holds;
        told =
            c.loop-held.invariant.1.told
            ∙ known_on _ _ _ _ _ _ _ _ _ _ c.next_word-word.ensures c.if-kind-eq-END.false _ c.word_known.ensures (c.if-not-word_known.false) _ c.actions_differ.ensures (c.if-not-actions_differ.false) _ _ _ _ e;
      },
    )
