-- The number is that of the refusal.
-- Assumes nothing.
use Rattle.lines.proofs.answers.refused.Goals as goal

pub returns : goal.returns
returns c = rw (← c.from.ensures) c.say.ensures
