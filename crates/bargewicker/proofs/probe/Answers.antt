-- `probe` asks where the judge accepts, and gives its refusal where it does not.
-- Assumes nothing.
use mathlib.Core.Path.{refl}
use Rattle.std.proofs.lemmas.Result.{err_from_is_err_and}
use Rattle.sheet.proofs.AskedLaws.{refused_too}
use Rattle.bargewicker.specs.Questions.{probe_in, placed, reply}
use Rattle.bargewicker.proofs.PromiseLaws.{refused_so}
use Rattle.bargewicker.proofs.probe.Goals as goal

pub returns-in_err-sheet : goal.returns-in_err-sheet
unfolding reply placed
returns-in_err-sheet c =
    let a = c.args in
    let p = err_from_is_err_and c.from_residual.result c.from_residual.ensures.1 in
    rw (p.1, p.2) (refused_so (probe_in a.sheet.now a.children.now a.state) _ (refused_too _ _ c.in_err-sheet.ensures.refused _ refl _) _ refl)
