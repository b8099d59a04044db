-- `list_ok` meets its contract. The loop goes from the last pair down; its invariant, `Checked`: the children from pair i on are right.
-- Assumes nothing.
use native.Mathlib.Omega.{arith}
use Rattle.children.proofs.ListLaws.{checked_start, checked_more, checked_wrong, odd_wrong, long_wrong, checked_end}
use Rattle.children.proofs.lists.list_ok.Goals as goal

pub returns-then-n-ne0 : goal.returns-then-n-ne0
returns-then-n-ne0 c = odd_wrong _ _ c.if-n-ne0.true

pub returns-then-n-gt8192 : goal.returns-then-n-gt8192
returns-then-n-gt8192 c = long_wrong _ _ c.if-n-gt8192.true

pub loop-i-init : goal.loop-i-init
loop-i-init c = checked_start _ _

pub returns-then-not-child_ok : goal.returns-then-not-child_ok
returns-then-not-child_ok c = checked_wrong _ _ _ c.loop-i.invariant c.loop-i-test.true _ _ c.class_at.ensures c.name_at.ensures _ c.child_ok.ensures (c.if-not-child_ok.true)

pub loop-i-preserved : goal.loop-i-preserved
loop-i-preserved c = checked_more _ _ _ c.loop-i.invariant c.loop-i-test.true _ _ c.class_at.ensures c.name_at.ensures _ c.child_ok.ensures (c.if-not-child_ok.false)

pub returns : goal.returns
returns c = checked_end _ _ _ c.loop-i.invariant (omega arith) (omega arith) c.if-n-gt8192.false
