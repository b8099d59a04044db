-- The two tests.
-- Assumes nothing.
use Rattle.asking.proofs.AskingLaws.{form_told}
use Rattle.asking.proofs.is_form.Goals as goal

pub returns : goal.returns
returns c = form_told _ _ _ _ _ c.same.ensures
