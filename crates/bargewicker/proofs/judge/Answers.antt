-- `judge` passes the judge's verdict on.
-- Assumes nothing.
use mathlib.Core.Path.{refl, sym}
use Rattle.std.proofs.lemmas.Result.{err_from_is_err_and}
use Rattle.sheet.proofs.AskedLaws.{refused_too}
use Rattle.bargewicker.specs.Questions.{judge, reply}
use Rattle.bargewicker.proofs.PromiseLaws.{refused_so, accepted_so}
use Rattle.bargewicker.proofs.judge.Goals as goal

pub returns : goal.returns
returns c = rw (sym c.in_ok-judged.ensures.held) (accepted_so _ c.in_ok-judged.field-0.stands.accepted)

pub returns-in_err-judged : goal.returns-in_err-judged
unfolding reply
returns-in_err-judged c =
    let a = c.args in
    let p = err_from_is_err_and c.from_residual.result c.from_residual.ensures.1 in
    rw (p.1, p.2) (refused_so (judge a.sheet.now) _ (refused_too _ _ c.in_err-judged.ensures.refused _ refl _) _ refl)
