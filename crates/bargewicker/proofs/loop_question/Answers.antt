-- `loop_question` asks where the judge accepts, and gives its refusal where it does not.
-- Assumes nothing.
use mathlib.Core.Path.{refl, sym}
use Rattle.std.proofs.lemmas.Result.{err_from_is_err_and}
use Rattle.sheet.proofs.AskedLaws.{refused_too}
use Rattle.bargewicker.specs.Questions.{loop_with, reply}
use Rattle.bargewicker.proofs.PromiseLaws.{refused_so, looped_so}
use Rattle.bargewicker.proofs.loop_question.Goals as goal

pub returns : goal.returns
returns c = rw (sym c.in_ok-sheet.ensures.held) (looped_so _ _ _ c.in_ok-sheet.sheet.stands.accepted c.loop_with.result _ c.loop_with.ensures)

pub returns-in_err-sheet : goal.returns-in_err-sheet
unfolding reply
returns-in_err-sheet c =
    let a = c.args in
    let p = err_from_is_err_and c.from_residual.result c.from_residual.ensures.1 in
    rw (p.1, p.2) (refused_so (loop_with a.sheet.now a.present a.out.now) _ (refused_too _ _ c.in_err-sheet.ensures.refused _ refl _) _ refl)
