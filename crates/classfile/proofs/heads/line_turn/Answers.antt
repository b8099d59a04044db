use mathlib.Core.Logic.{inl, inr}
use Rattle.classfile.proofs.HeadLaws.{line_as, stands_as, line_ends}
use Rattle.classfile.specs.Reads.{lined, lined_buffer}
use Rattle.classfile.proofs.heads.line_turn.Goals as goal

pub slice_bounds-class_ends-count : goal.slice_bounds-class_ends-count
slice_bounds-class_ends-count c = (stands_as _ _ _ _ _ c.in-States.is c.requires).0

pub slice_bounds-class_ends-start : goal.slice_bounds-class_ends-start
slice_bounds-class_ends-start c = (stands_as _ _ _ _ _ c.in-States.is c.requires).0

pub slice_bounds-class_ends-end : goal.slice_bounds-class_ends-end
slice_bounds-class_ends-end c = (stands_as _ _ _ _ _ c.in-States.is c.requires).1

pub class_ends-requires : goal.class_ends-requires
class_ends-requires c = (stands_as _ _ _ _ _ c.in-States.is c.requires).3

pub returns-in-Begins : goal.returns-in-Begins
unfolding lined lined_buffer
returns-in-Begins c = line_as _ _ _ _ _ c.in-Begins.is

pub returns-in-Names : goal.returns-in-Names
unfolding lined lined_buffer
returns-in-Names c = elim c.in-Names.is [ inl e ↦ line_as _ _ _ _ _ e | inr e ↦ line_as _ _ _ _ _ e ]

pub returns-in-Class : goal.returns-in-Class
unfolding lined lined_buffer
returns-in-Class c = line_as _ _ _ _ _ c.in-Class.is

pub returns-in-States : goal.returns-in-States
unfolding lined lined_buffer
returns-in-States c = line_ends _ _ _ _ _ c.in-States.is _ _ c.class_ends.ensures
