use Rattle.std.proofs.lemmas.Result.{err_from_is_err_and}
use Rattle.classfile.proofs.HeadLaws.{named_fine, named_bad}
use Rattle.classfile.proofs.heads.name_word.Goals as goal

pub returns-in_err-add_name : goal.returns-in_err-add_name
returns-in_err-add_name c =
    let p = err_from_is_err_and c.from_residual.result c.from_residual.ensures.1 in
    rw (p.1, p.2) (named_bad _ _ _ _ _ c.add_name.ensures _ c.in_err-add_name.was)

pub returns : goal.returns
returns c = named_fine _ _ _ _ _ c.add_name.ensures c.in_ok-add_name.was
