-- `guards_few` meets its contract: the class's guard records were counted.
-- Assumes nothing.
use Rattle.missing.proofs.AnswerLaws.{few_told}
use Rattle.missing.proofs.guards_few.Goals as goal

pub returns : goal.returns
returns c = few_told _ c.class_tally.result c.class_tally.ensures
