use Rattle.readclass.proofs.Going.{shorter}
use Rattle.readclass.proofs.sizing.passes.Goals as goal

pub loop-limit-smaller-then-is_one : goal.loop-limit-smaller-then-is_one
loop-limit-smaller-then-is_one c = shorter _ _ _ _ _ c.next_word-word.ensures c.if-kind-eq-END.false

pub loop-limit-smaller-then-kind-eq-ENDIF : goal.loop-limit-smaller-then-kind-eq-ENDIF
loop-limit-smaller-then-kind-eq-ENDIF c = shorter _ _ _ _ _ c.next_word-word.ensures c.if-kind-eq-END.false

pub loop-limit-smaller : goal.loop-limit-smaller
loop-limit-smaller c = shorter _ _ _ _ _ c.next_word-word.ensures c.if-kind-eq-END.false
