-- Each ending has its word, and a closing DO its command.
-- Assumes nothing.
use Rattle.lines.specs.Lines.{text_of}
use Rattle.lines.proofs.LineLaws.{phase_closed}
use Rattle.lines.proofs.answers.append_settled.Goals as goal

pub returns-in-ByNone : goal.returns-in-ByNone
unfolding text_of
returns-in-ByNone c = rw c.in-ByNone.is c.append_unclosed.ensures

pub returns-in-ByStay : goal.returns-in-ByStay
unfolding text_of
returns-in-ByStay c = rw c.in-ByStay.is c.append_unclosed-in-ByStay.ensures

pub returns-in-ByDo : goal.returns-in-ByDo
returns-in-ByDo c = rw c.in-ByDo.is (phase_closed _ _ _ _ _ _ _ _ c.say.ensures)
