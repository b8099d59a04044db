use Rattle.std.proofs.lemmas.Result.{err_from_is_err_and}
use Rattle.classfile.proofs.PartLaws.{counted, name_added, name_kept}
use Rattle.classfile.proofs.parts.add_name.Goals as goal

pub slice_bounds-judge_name-end-2 : goal.slice_bounds-judge_name-end-2
slice_bounds-judge_name-end-2 c = counted _ _ c.requires

pub returns-in_err-judge_name : goal.returns-in_err-judge_name
returns-in_err-judge_name c =
    let p = err_from_is_err_and c.from_residual.result c.from_residual.ensures.1 in
    rw (p.1, p.2) (name_kept _ _ _ _ _ c.judge_name.ensures c.in_err-judge_name.was)

pub returns : goal.returns
returns c = name_added _ _ _ _ _ _ c.judge_name.ensures c.in_ok-judge_name.was c.put_name.ensures
