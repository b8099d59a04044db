-- The loop goes from the first pair on; its invariant, `Sending`: with what is left to be sent the buffer is as it is to be.
-- Assumes nothing.
use Rattle.running.proofs.SendLaws.{sent_told, send_more, send_past, send_end}
use Rattle.running.proofs.send.Goals as goal
use Rattle.running.proofs.send.Goals.{then-meant, else-meant}

pub loop-i-preserved : goal.loop-i-preserved
loop-i-preserved c =
    elim c.if-meant.branch [ then-meant w ↦ rw (w.out-is, w.end-is) (send_more _ _ _ c.loop-i.invariant c.loop-i-test.true (sent_told c.args.list.now _ c.args.command c.loop-i.i _ c.class_at.ensures _ c.is_meant-meant.ensures w.if-meant.true) w.put.ensures) | else-meant w ↦ rw (w.out-is, w.end-is) (send_past _ _ _ c.loop-i.invariant c.loop-i-test.true (sent_told c.args.list.now _ c.args.command c.loop-i.i _ c.class_at.ensures _ c.is_meant-meant.ensures w.if-meant.false)) ]

pub returns : goal.returns
returns c = send_end _ _ _ c.loop-i.invariant c.loop-i-test.false
