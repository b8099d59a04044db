-- The answer's line is written with the pairs that were written, at most twenty: the line of the sheet.
-- Assumes nothing.
use Prim.Native.Nat.{◌≤◌}
use native.Mathlib.Omega.{arith}
use mathlib.Core.Path.{sym}
use lib.Seq.{length-take-le}
use Rattle.loopcheck.proofs.Printing.{few, printed}
use Rattle.loopcheck.proofs.line.render.Goals as goal

pub overflow_mul-list : goal.overflow_mul-list
overflow_mul-list c =
    let few_children : c.children_in-n.result ≤ 20 = rw c.children_in-n.ensures (few _ _ c.ask-answer.result c.ask-answer.ensures) in
    omega arith

pub slice_bounds-list-end : goal.slice_bounds-list-end
slice_bounds-list-end c =
    let few_children : c.children_in-n.result ≤ 20 = rw c.children_in-n.ensures (few _ _ c.ask-answer.result c.ask-answer.ensures) in
    omega arith

pub slice_bounds-loopcheck_line-end : goal.slice_bounds-loopcheck_line-end
slice_bounds-loopcheck_line-end c =
    let few_children : c.children_in-n.result ≤ 20 = rw c.children_in-n.ensures (few _ _ c.ask-answer.result c.ask-answer.ensures) in
    sym (length-take-le _ _ (omega arith))

pub returns : goal.returns
returns c = printed _ _ c.ask-answer.result c.ask-answer.ensures _ _ _ _ c.children_in-n.ensures (omega arith) c.loopcheck_line.ensures
