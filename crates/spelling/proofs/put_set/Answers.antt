-- `put_set` meets its contract, for a set of one name and for any other.
-- Assumes nothing.
use Rattle.pen.proofs.Puts.{puts_as}
use Rattle.spelling.proofs.SpellingLaws.{set_alone, set_not_alone}
use Rattle.spelling.proofs.put_set.Goals as goal

pub returns-then-set-eq1 : goal.returns-then-set-eq1
returns-then-set-eq1 c = puts_as (set_alone _ _ c.ranges.set.fits c.if-set-eq1.true) c.put_row.ensures

pub returns : goal.returns
returns c = puts_as (set_not_alone _ _ c.ranges.set.fits c.if-set-eq1.false) c.put_braced.ensures
