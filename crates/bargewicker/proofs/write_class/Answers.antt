-- `write_class` asks where the judge accepts, and gives its refusal where it does not.
-- Assumes nothing.
use mathlib.Core.Path.{refl, sym}
use Rattle.std.proofs.lemmas.Result.{err_from_is_err_and}
use Rattle.sheet.proofs.AskedLaws.{refused_too}
use Rattle.writings.specs.Writings.{named}
use Rattle.bargewicker.specs.Questions.{text_of, reply}
use Rattle.bargewicker.proofs.PromiseLaws.{refused_so, wrote_so}
use Rattle.bargewicker.proofs.write_class.Goals as goal

pub returns : goal.returns
returns c = rw (sym c.in_ok-sheet.ensures.held) (wrote_so _ _ _ c.in_ok-sheet.sheet.stands.accepted c.write_text.result _ c.write_text.ensures)

pub returns-in_err-sheet : goal.returns-in_err-sheet
unfolding reply
returns-in_err-sheet c =
    let a = c.args in
    let p = err_from_is_err_and c.from_residual.result c.from_residual.ensures.1 in
    rw (p.1, p.2) (refused_so (text_of a.sheet.now (named a.own_name.now a.own_states.now a.names.now a.commands.now a.classes.now) a.out.now) _ (refused_too _ _ c.in_err-sheet.ensures.refused _ refl _) _ refl)
