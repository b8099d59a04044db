use Rattle.limits.proofs.CountLaws.{few_by}
use Rattle.limits.proofs.few_enough.Goals as goal

pub returns : goal.returns
returns c = few_by _ _ _ _ _ _ c.counts_right.ensures c.sets_right.ensures
