use Rattle.classfile.proofs.GivenLaws.{head_inside}
use Rattle.readclass.proofs.Making.{made_read, made_bad}
use Rattle.readclass.proofs.converting.head_made.Goals as goal

pub lists_made-requires-clause-start_in_bounds : goal.lists_made-requires-clause-start_in_bounds
lists_made-requires-clause-start_in_bounds c = let h = head_inside _ _ _ _ _ c.read_head-answer.ensures.inside _ _ c.in-Ok.is in h.1

pub lists_made-requires-clause-fits : goal.lists_made-requires-clause-fits
lists_made-requires-clause-fits c = let h = head_inside _ _ _ _ _ c.read_head-answer.ensures.inside _ _ c.in-Ok.is in h.0

pub returns-in-Err : goal.returns-in-Err
returns-in-Err c = made_bad _ _ _ _ _ _ _ _ c.read_head-answer.ensures.head_read _ _ _ _ c.in-Err.is

pub returns-in-Ok : goal.returns-in-Ok
returns-in-Ok c = made_read _ _ _ _ _ _ _ _ c.read_head-answer.ensures.head_read _ _ _ c.in-Ok.is _ _ c.lists_made.ensures
