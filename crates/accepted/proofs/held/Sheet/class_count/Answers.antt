-- `class_count` counts the records of body 0, which an accepted sheet has few of.
-- Assumes nothing.
use Rattle.accepted.proofs.ReaderLaws.{classes_few}
use Rattle.accepted.proofs.held.Sheet.class_count.Goals as goal

pub returns : goal.returns
returns c = classes_few _ _ c.args.self.stands _ _ c.in_fours.ensures c.body.ensures
