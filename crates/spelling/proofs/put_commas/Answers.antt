-- `put_commas` meets its contract. The loop's invariant: whoever writes the names from i on has written all.
-- Assumes nothing.
use native.Mathlib.Omega.{arith}
use Rattle.pen.proofs.Puts.{puts_on, going_none, going_on, going_end}
use Rattle.spelling.proofs.SpellingLaws.{commas_on, commas_past, commas_over}
use Rattle.spelling.proofs.put_commas.Goals.{then-has_name, else-has_name}
use Rattle.spelling.proofs.put_commas.Goals as goal

pub loop-i-init : goal.loop-i-init
loop-i-init c = going_none _ _ _ (omega arith)

pub loop-i-preserved : goal.loop-i-preserved
loop-i-preserved c = elim c.if-has_name.branch [
  | then-has_name w ↦ rw (w.out-is, w.end-is) (going_on c.loop-i.invariant (commas_on _ _ _ c.loop-i-test.true _ c.has_name.ensures w.if-has_name.true) (puts_on w.put_bytes-comma.ensures w.put_name-end.ensures))
  | else-has_name w ↦ rw (w.out-is, w.end-is) (rw (commas_past _ _ _ c.loop-i-test.true _ c.has_name.ensures w.if-has_name.false) at c.loop-i.invariant)
]

pub returns : goal.returns
returns c = going_end c.loop-i.invariant (commas_over _ _ _ c.loop-i-test.false) (omega arith)
