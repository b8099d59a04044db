use Rattle.std.proofs.lemmas.Result.{err_from_is_err_and}
use Rattle.classfile.proofs.HeadLaws.{classed_fine, classed_bad}
use Rattle.classfile.proofs.PartLaws.{counted}
use Rattle.classfile.proofs.heads.class_word.Goals as goal

pub slice_bounds-judge_name-end : goal.slice_bounds-judge_name-end
slice_bounds-judge_name-end c = counted _ _ c.requires

pub returns-in_err-judge_name : goal.returns-in_err-judge_name
returns-in_err-judge_name c =
    let p = err_from_is_err_and c.from_residual.result c.from_residual.ensures.1 in
    rw (p.1, p.2) (classed_bad _ _ _ _ _ _ c.judge_name.ensures _ c.in_err-judge_name.was)

pub returns : goal.returns
returns c = classed_fine _ _ _ _ _ _ c.judge_name.ensures c.in_ok-judge_name.was
