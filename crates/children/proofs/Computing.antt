-- One name that opens every definition of child lists, so that a closed question computes: `unfolding computing`.
-- Assumes nothing.
use Rattle.children.specs.ChildList.{children_of, list_right, pairs, sent_bytes}

unfoldable pub computing : Unit {0}
unfolding children_of list_right pairs sent_bytes
computing = tt
