-- `occupy` meets its contract. The loop goes from the last pair down; its invariant, `Down`: the 8 sets show the children from pair i on.
-- Assumes nothing.
use native.Mathlib.Omega.{arith}
use Rattle.children.proofs.CrewLaws.{room, down_start, down_more, down_past, down_end}
use Rattle.children.proofs.crews.occupy.Goals as goal

pub loop-i-init : goal.loop-i-init
loop-i-init c = down_start c.args.list.now

pub bounds-sets-c : goal.bounds-sets-c
bounds-sets-c c = (room c.class_at-class.result.0 c.name_at-name.result.0 c.if-class-name.true).0

pub with_name-requires : goal.with_name-requires
with_name-requires c = (room c.class_at-class.result.0 c.name_at-name.result.0 c.if-class-name.true).1

pub bounds-sets-c-then-class-name : goal.bounds-sets-c-then-class-name
bounds-sets-c-then-class-name c = (room c.class_at-class.result.0 c.name_at-name.result.0 c.if-class-name.true).0

pub loop-i-preserved-then-class-name : goal.loop-i-preserved-then-class-name
loop-i-preserved-then-class-name c = down_more _ _ _ c.loop-i.invariant c.loop-i-test.true _ _ c.class_at-class.ensures c.name_at-name.ensures _ c.if-class-name.true c.with_name.ensures

pub loop-i-preserved : goal.loop-i-preserved
loop-i-preserved c = down_past _ _ _ c.loop-i.invariant c.loop-i-test.true _ _ c.class_at-class.ensures c.name_at-name.ensures c.if-class-name.false

pub returns : goal.returns
returns c = down_end _ _ _ c.loop-i.invariant (omega arith)
