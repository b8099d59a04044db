use Rattle.std.proofs.lemmas.Result.{err_from_is_err_and}
use Rattle.classfile.proofs.HeadLaws.{stated_to, stated_bad}
use Rattle.classfile.proofs.PartLaws.{counted}
use Rattle.classfile.proofs.heads.state_word.Goals as goal

pub slice_bounds-add_state-end : goal.slice_bounds-add_state-end
slice_bounds-add_state-end c = counted _ _ c.requires

pub returns-in_err-more : goal.returns-in_err-more
returns-in_err-more c =
    let p = err_from_is_err_and c.from_residual.result c.from_residual.ensures.1 in
    rw (p.1, p.2) (stated_bad _ _ _ _ _ _ _ c.add_state.ensures _ c.in_err-more.was)

pub returns : goal.returns
returns c = stated_to _ _ _ _ _ _ _ c.add_state.ensures _ c.in_ok-more.was
