-- `state_count` counts the records of body 1, which an accepted sheet has few of.
-- Assumes nothing.
use Rattle.accepted.proofs.ReaderLaws.{states_few}
use Rattle.accepted.proofs.held.Sheet.state_count.Goals as goal

pub returns : goal.returns
returns c = states_few _ _ c.args.self.stands _ _ c.in_fours.ensures c.body.ensures
