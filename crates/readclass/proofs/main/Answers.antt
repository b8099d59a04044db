use native.Mathlib.Omega.{arith}
use Rattle.classfile.proofs.PartLaws.{counted}
use Rattle.readclass.proofs.main.Goals as goal

pub slice_bounds-write_all-end : goal.slice_bounds-write_all-end
slice_bounds-write_all-end c = counted _ _ (omega arith)
