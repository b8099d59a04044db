-- `class_set` meets its contract: the last four bytes of a class's record, and none past the end.
-- Assumes nothing.
use Prim.Native.Nat.{◌-◌, ◌*◌, ◌≤◌}
use lib.ListN.{length}
use mathlib.Core.Path.{◌∙◌}
use native.Mathlib.Omega.{arith}
use Rattle.lists.proofs.RecordLaws.{record_inside, set_past, set_there}
use Rattle.lists.proofs.class_set.Goals as goal

pub returns-then-classes-i : goal.returns-then-classes-i
returns-then-classes-i c = set_past _ _ c.if-classes-i.true

pub returns : goal.returns
returns c =
    let a = c.args in
    let h = record_inside a.classes.now 36 a.i c.if-classes-i.false in
    let l : 36 ≤ length a.classes.now - a.i * 36 = omega arith in
    c.u32_at.ensures ∙ set_there a.classes.now a.i (length a.classes.now - a.i * 36) c.if-classes-i.false l
