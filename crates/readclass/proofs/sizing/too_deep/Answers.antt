use native.Mathlib.Omega.{arith}
use Rattle.readclass.proofs.Going.{walked, shorter}
use Rattle.readclass.proofs.sizing.too_deep.Goals as goal

pub is_deep-requires : goal.is_deep-requires
is_deep-requires c = let h = walked _ _ _ _ _ c.next_word-word.ensures c.if-kind-eq-END.false in (omega arith, h.2)

pub loop-at-smaller : goal.loop-at-smaller
loop-at-smaller c = shorter _ _ _ _ _ c.next_word-word.ensures c.if-kind-eq-END.false
