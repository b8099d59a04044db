use native.Mathlib.Omega.{arith}
use Rattle.readclass.proofs.Going.{walked, shorter}
use Rattle.readclass.proofs.blame.first_wrong.Goals as goal

pub word_held-one-requires-clause-start_le_end : goal.word_held-one-requires-clause-start_le_end
word_held-one-requires-clause-start_le_end c = let h = walked _ _ _ _ _ c.next_word-word.ensures c.if-kind-eq-END.false in (omega arith, h.2)

pub word_held-one-requires-clause-holds : goal.word_held-one-requires-clause-holds
word_held-one-requires-clause-holds c = let h = walked _ _ _ _ _ c.next_word-word.ensures c.if-kind-eq-END.false in c.requires

pub entered-scope-requires-clause-start_le_end : goal.entered-scope-requires-clause-start_le_end
entered-scope-requires-clause-start_le_end c = let h = walked _ _ _ _ _ c.next_word-word.ensures c.if-kind-eq-END.false in (omega arith, h.2)

pub entered-scope-requires-clause-fewer : goal.entered-scope-requires-clause-fewer
entered-scope-requires-clause-fewer c = let h = walked _ _ _ _ _ c.next_word-word.ensures c.if-kind-eq-END.false in omega arith

pub loop-held-smaller : goal.loop-held-smaller
loop-held-smaller c = shorter _ _ _ _ _ c.next_word-word.ensures c.if-kind-eq-END.false
