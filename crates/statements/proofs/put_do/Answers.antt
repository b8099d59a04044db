-- The command's number is that of the name ahead, the pattern that of the kin behind it.
-- Assumes nothing.
use Rattle.statements.proofs.PuttingLaws.{do_put}
use Rattle.statements.proofs.put_do.Goals as goal

pub returns : goal.returns
returns c =
    do_put _ _ _ _ _ _ _ _ _ _ _ _ c.name_ahead-name.ensures c.listed_number-command.ensures c.kin_behind-pattern.ensures
    c.put_short.ensures
