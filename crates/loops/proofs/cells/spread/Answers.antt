-- `spread`: from the last cell down, the sets show what is chosen of the cells from i on.
-- Assumes nothing.
use Prim.Native.Nat.{◌-◌}
use mathlib.Core.Path.{refl}
use Rattle.loops.proofs.SpreadLaws.{spreading_start, spreading_more, spreading_past, spreading_end}
use Rattle.loops.proofs.cells.spread.Goals as goal

pub loop-i-init : goal.loop-i-init
loop-i-init c = spreading_start _ _ _ _

pub bounds-sets-c : goal.bounds-sets-c
bounds-sets-c c = rw c.from-c.ensures (c.requires.1.class_small (c.loop-i.i - 1))

pub with_name-requires : goal.with_name-requires
with_name-requires c = c.requires.1.name_small (c.loop-i.i - 1)

pub bounds-sets-c-then-k-i-eq1 : goal.bounds-sets-c-then-k-i-eq1
bounds-sets-c-then-k-i-eq1 c = rw c.from-c.ensures (c.requires.1.class_small (c.loop-i.i - 1))

pub loop-i-preserved-then-k-i-eq1 : goal.loop-i-preserved-then-k-i-eq1
loop-i-preserved-then-k-i-eq1 c =
    spreading_more _ _ _ _ _ _ c.loop-i.invariant c.loop-i-test.true _ c.if-k-i-eq1.true _ _ c.from-c.ensures refl (rw c.from-c.ensures (c.requires.1.class_small (c.loop-i.i - 1))) c.with_name.ensures c.with_name.type_inv

pub loop-i-preserved : goal.loop-i-preserved
loop-i-preserved c = spreading_past _ _ _ _ _ _ c.loop-i.invariant c.loop-i-test.true c.if-k-i-eq1.false

pub returns : goal.returns
returns c = spreading_end _ _ _ _ _ _ c.loop-i.invariant c.loop-i-test.false
