-- `has` meets its contract: the shift and the mask give the one bit.
-- Assumes nothing.
use Rattle.model.proofs.Masks.{shifted}
use Rattle.records.proofs.sets.has.Goals as goal

pub returns : goal.returns
returns c = shifted c.args.set c.args.n
