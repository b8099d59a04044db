-- The judge refuses, or the text is asked of the sheet that it accepts.
-- Assumes nothing.
use mathlib.Core.Path.{refl, sym}
use Rattle.std.proofs.lemmas.Result.{err_from_is_err_and}
use Rattle.writeclass.proofs.Making.{judge_refused, text_asked}
use Rattle.writeclass.proofs.converting.written.Goals as goal

pub returns : goal.returns
returns c = rw (sym c.in_ok-sheet.ensures.held) (text_asked _ _ _ c.in_ok-sheet.sheet.stands.accepted c.write_text.result _ c.write_text.ensures)

pub returns-in_err-sheet : goal.returns-in_err-sheet
returns-in_err-sheet c =
    let p = err_from_is_err_and c.from_residual.result c.from_residual.ensures.1 in
    rw (p.1, p.2) (judge_refused _ _ _ _ _ c.in_err-sheet.ensures.refused refl)
