use Rattle.classfile.proofs.PartLaws.{counted}
use Rattle.readclass.proofs.sizing.is_deep.Goals as goal

pub slice_bounds-all_shallow-end : goal.slice_bounds-all_shallow-end
slice_bounds-all_shallow-end c = counted _ _ c.order_guards-count.ensures.room
