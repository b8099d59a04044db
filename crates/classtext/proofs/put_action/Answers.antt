-- The words of an action clause, and its statements.
-- Assumes nothing.
use native.Mathlib.Omega.{arith}
use Rattle.model.specs.Words.{listed}
use Rattle.grammar.specs.Words.{spelled}
use Rattle.classtext.proofs.ClassLaws.{action_small, action_puts}
use Rattle.classtext.proofs.put_action.Goals as goal

pub action_command-requires : goal.action_command-requires
action_command-requires c = let h = action_small _ _ c.args.sheet.stands _ c.requires in omega arith

pub statements_of-part-requires : goal.statements_of-part-requires
statements_of-part-requires c = action_small _ _ c.args.sheet.stands _ c.requires

pub returns : goal.returns
unfolding listed spelled
returns c = action_puts _ _ c.args.sheet.stands _ _ _ _ _ _ _ _ c.requires c.body-guards.ensures c.body-actions.ensures c.body.ensures c.action_command.ensures c.statements_of-part.ensures c.put_indent-b.ensures c.put_bytes-c.ensures c.put_name-d.ensures c.put_bytes-e.ensures c.put_part.ensures
