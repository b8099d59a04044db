use native.Mathlib.Omega.{arith}
use Rattle.classfile.proofs.GivenLaws.{head_inside}
use Rattle.writeclass.proofs.Making.{head_ends, second_read, second_wrong}
use borrow.Author.Rules.{rules}
use Rattle.writeclass.proofs.converting.second_made.Goals as goal

pub overflow_add-from : goal.overflow_add-from
overflow_add-from c =
    let l = head_ends c.args.file.now _ _ c.requires (head_inside _ _ _ _ _ c.read_head-answer.ensures.inside _ _ c.in-Ok.is).1 in
    search rules

pub lists_made-requires-clause-from_le_start : goal.lists_made-requires-clause-from_le_start
lists_made-requires-clause-from_le_start c = let h = head_inside _ _ _ _ _ c.read_head-answer.ensures.inside _ _ c.in-Ok.is in (omega arith, head_ends c.args.file.now _ _ c.requires h.1)

pub lists_made-requires-clause-fits : goal.lists_made-requires-clause-fits
lists_made-requires-clause-fits c = let h = head_inside _ _ _ _ _ c.read_head-answer.ensures.inside _ _ c.in-Ok.is in h.0

pub returns-in-Err : goal.returns-in-Err
returns-in-Err c = second_wrong _ _ _ _ _ _ _ _ c.read_head-answer.ensures.head_read _ _ _ _ _ _ _ _ c.in-Err.is _ _

pub returns-in-Ok : goal.returns-in-Ok
returns-in-Ok c = second_read _ _ _ _ _ _ _ _ c.read_head-answer.ensures.head_read _ _ _ _ _ _ _ c.in-Ok.is _ _ c.lists_made.ensures
