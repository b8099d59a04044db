-- The own state's number is that of the name ahead.
-- Assumes nothing.
use Rattle.statements.proofs.PuttingLaws.{move_put}
use Rattle.statements.proofs.put_move.Goals as goal

pub returns : goal.returns
returns c = move_put _ _ _ _ _ _ _ _ _ c.name_ahead-name.ensures c.own_number-state.ensures c.put_short.ensures
