-- The first word ahead, and its bytes where it is a name.
-- Assumes nothing.
use Rattle.clauses.proofs.Turns.{command_none, command_named, name_inside}
use Rattle.clauses.proofs.command_ahead.Goals as goal

pub returns-then-word-ne-NAME : goal.returns-then-word-ne-NAME
returns-then-word-ne-NAME c = command_none c.next_word-word.ensures _ c.if-word-ne-NAME.true

pub slice_bounds-command_number-count : goal.slice_bounds-command_number-count
slice_bounds-command_number-count c = (name_inside c.next_word-word.ensures c.if-word-ne-NAME.false).0

pub slice_bounds-command_number-start : goal.slice_bounds-command_number-start
slice_bounds-command_number-start c = (name_inside c.next_word-word.ensures c.if-word-ne-NAME.false).0

pub slice_bounds-command_number-end : goal.slice_bounds-command_number-end
slice_bounds-command_number-end c = (name_inside c.next_word-word.ensures c.if-word-ne-NAME.false).1

pub returns : goal.returns
returns c = command_named c.next_word-word.ensures _ c.if-word-ne-NAME.false c.command_number.ensures
