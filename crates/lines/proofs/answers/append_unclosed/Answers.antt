-- The three numbers, and the empty field behind them.
-- Assumes nothing.
use Rattle.texts.proofs.Appending.{appended_then}
use Rattle.lines.proofs.answers.append_unclosed.Goals as goal

pub returns : goal.returns
returns c = appended_then _ _ _ _ _ _ _ _ c.say-end.ensures c.append_empty.ensures
