use Rattle.classfile.proofs.PartLaws.{class_put}
use Rattle.classfile.proofs.parts.add_class.Goals as goal

pub returns : goal.returns
returns c = class_put _ _ _ _ _ _ _ _ c.put_name-next.ensures c.put_number.ensures
