-- The judge refuses, or the question is asked with a bit for each of the K classes.
-- Assumes nothing.
use mathlib.Core.Path.{refl, sym}
use Rattle.std.proofs.lemmas.Result.{err_from_is_err_and}
use Rattle.loopcheck.proofs.Asking.{refused_told, all_asked}
use Rattle.loopcheck.proofs.line.ask.Goals as goal

pub returns : goal.returns
returns c =
    rw (sym c.in_ok-sheet.ensures.held) (all_asked _ _ _ _ _ _ _ c.in_ok-sheet.sheet.stands c.class_count.ensures.0 c.all_classes.ensures c.loop_with.ensures)

pub returns-in_err-sheet : goal.returns-in_err-sheet
returns-in_err-sheet c =
    let p = err_from_is_err_and c.from_residual.result c.from_residual.ensures.1 in
    rw (p.1, p.2) (refused_told _ _ _ _ c.in_err-sheet.ensures.refused refl)
