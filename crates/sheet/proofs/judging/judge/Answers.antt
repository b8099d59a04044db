-- The places that were found mark off the six bodies; what their rules say is the verdict.
-- Assumes nothing.
use Rattle.std.proofs.lemmas.Result.{err_from_is_err_and}
use Rattle.sheet.specs.Verdict.{Marked}
use Rattle.sheet.proofs.PlaceLaws.{cut_short, told_right, told_broken}
use Rattle.sheet.proofs.judging.judge.Goals as goal

pub judge_bodies-requires : goal.judge_bodies-requires
judge_bodies-requires c = let m : Marked c.args.sheet.now c.in_ok-p.p = c.in_ok-p.ensures in cut_short _ m.contents_fit m.places

pub returns-in_err-judge_bodies : goal.returns-in_err-judge_bodies
returns-in_err-judge_bodies c =
    let m : Marked c.args.sheet.now c.in_ok-p.p = c.in_ok-p.ensures in
    let p = err_from_is_err_and c.from_residual-in_err-judge_bodies.result c.from_residual-in_err-judge_bodies.ensures.1 in
    rw (p.1, p.2) (told_broken _ m.contents_fit m.places m.length_fits _ c.in_err-judge_bodies.was c.judge_bodies.ensures)

pub returns : goal.returns
returns c =
    let m : Marked c.args.sheet.now c.in_ok-p.p = c.in_ok-p.ensures in
    told_right _ m.contents_fit m.places m.length_fits _ c.in_ok-judge_bodies.was c.judge_bodies.ensures
