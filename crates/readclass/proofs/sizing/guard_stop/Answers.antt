use native.Mathlib.Omega.{arith}
use Rattle.readclass.proofs.Going.{walked, shorter}
use Rattle.readclass.proofs.sizing.guard_stop.Goals as goal

pub loop-word-smaller : goal.loop-word-smaller
loop-word-smaller c = shorter _ _ _ _ _ c.next_word-word.ensures c.if-kind-eq-END.false

pub loop-word-preserved : goal.loop-word-preserved
loop-word-preserved c = let h = walked _ _ _ _ _ c.next_word-word.ensures c.if-kind-eq-END.false in (omega arith, h.2)
