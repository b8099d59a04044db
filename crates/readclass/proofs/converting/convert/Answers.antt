use Rattle.readclass.proofs.Making.{too_long, converted}
use Rattle.readclass.proofs.converting.convert.Goals as goal

pub returns-then-file-gt-FILE : goal.returns-then-file-gt-FILE
returns-then-file-gt-FILE c = too_long _ _ c.if-file-gt-FILE.true

pub returns : goal.returns
returns c = converted _ _ _ _ c.if-file-gt-FILE.false c.head_made.ensures
