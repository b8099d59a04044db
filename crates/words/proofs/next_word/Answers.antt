use native.Mathlib.Omega.{arith}
use mathlib.Core.Path.{refl}
use Rattle.words.proofs.Laws.{next_end, next_found, word_inside}
use Rattle.words.proofs.next_word.Goals as goal

pub returns-then-text-at : goal.returns-then-text-at
returns-then-text-at c = next_end _ _ _ _ _ _ refl (omega arith) c.if-text-at.true c.end_word.ensures

pub returns-then-text-start : goal.returns-then-text-start
returns-then-text-start c = let s = c.skip_white-start.ensures in next_end _ _ _ _ _ _ s.words s.onward c.if-text-start.true c.end_word-then-text-start.ensures

pub slice_bounds-kind_of-end : goal.slice_bounds-kind_of-end
slice_bounds-kind_of-end c = (word_inside _ _ _ c.if-text-start.false c.word_end-end.ensures).1

pub returns : goal.returns
returns c = next_found _ _ _ _ _ c.skip_white-start.ensures c.if-text-start.false c.word_end-end.ensures c.kind_of-kind.ensures
