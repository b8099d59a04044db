use Rattle.classfile.proofs.GivenLaws.{head_inside}
use Rattle.writeclass.proofs.Making.{first_read, first_wrong}
use Rattle.writeclass.proofs.converting.first_made.Goals as goal

pub own_made-requires-clause-from_in_bounds : goal.own_made-requires-clause-from_in_bounds
own_made-requires-clause-from_in_bounds c = let h = head_inside _ _ _ _ _ c.read_head-answer.ensures.inside _ _ c.in-Ok.is in h.1

pub own_made-requires-clause-fits : goal.own_made-requires-clause-fits
own_made-requires-clause-fits c = let h = head_inside _ _ _ _ _ c.read_head-answer.ensures.inside _ _ c.in-Ok.is in h.0

pub returns-in-Err : goal.returns-in-Err
returns-in-Err c = first_wrong _ _ _ _ _ _ _ _ c.read_head-answer.ensures.head_read _ _ _ _ _ c.in-Err.is _ _

pub returns-in-Ok : goal.returns-in-Ok
returns-in-Ok c = first_read _ _ _ _ _ _ _ _ c.read_head-answer.ensures.head_read _ _ _ _ c.in-Ok.is _ _ c.own_made.ensures
