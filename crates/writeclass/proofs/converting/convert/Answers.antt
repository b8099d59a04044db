use Rattle.writeclass.proofs.Making.{too_long, converted}
use Rattle.writeclass.proofs.converting.convert.Goals as goal

pub returns-then-file-gt-FILE : goal.returns-then-file-gt-FILE
returns-then-file-gt-FILE c = too_long _ _ c.if-file-gt-FILE.true _ _

pub returns : goal.returns
returns c = converted _ _ c.if-file-gt-FILE.false _ _ c.first_made.ensures
