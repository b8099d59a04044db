use Rattle.classfile.proofs.HeadLaws.{ended_none, ended_some}
use Rattle.classfile.proofs.heads.class_ends.Goals as goal

pub returns-then-set-eq0 : goal.returns-then-set-eq0
returns-then-set-eq0 c = ended_none _ _ _ _ c.if-set-eq0.true

pub returns : goal.returns
returns c = ended_some _ _ _ _ _ c.if-set-eq0.false c.add_class.ensures
