use Rattle.recognised.proofs.Watches.{seen_other, seen_here}
use Rattle.recognised.proofs.seen_after.Goals as goal

pub returns-then-level-watched : goal.returns-then-level-watched
returns-then-level-watched c = seen_other _ _ _ _ c.if-level-watched.true

pub returns : goal.returns
returns c = seen_here _ _ _ _ c.if-level-watched.false
