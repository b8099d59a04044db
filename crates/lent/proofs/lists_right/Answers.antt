-- `lists_right` meets its contract, list by list.
-- Assumes nothing.
use Rattle.model.proofs.Words.{passed, not_passed}
use Rattle.lists.proofs.ListLaws.{names_wrong, commands_wrong, classes_wrong, lists_told}
use mathlib.Core.Path.{ap}
use mathlib.Core.Bool.{not}
use Rattle.lent.proofs.lists_right.Goals as goal

pub returns-then-not-list_right : goal.returns-then-not-list_right
returns-then-not-list_right c = names_wrong _ _ _ (not_passed c.list_right.ensures (ap not c.if-not-list_right.true))

pub returns-then-not-list_right-2 : goal.returns-then-not-list_right-2
returns-then-not-list_right-2 c = commands_wrong _ _ _ (passed c.list_right.ensures (ap not c.if-not-list_right.false)) (not_passed c.list_right-2.ensures (ap not c.if-not-list_right-2.true))

pub returns-then-not-list_right-3 : goal.returns-then-not-list_right-3
returns-then-not-list_right-3 c = classes_wrong _ _ _ (passed c.list_right.ensures (ap not c.if-not-list_right.false)) (passed c.list_right-2.ensures (ap not c.if-not-list_right-2.false)) (not_passed c.list_right-3.ensures (ap not c.if-not-list_right-3.true))

pub returns : goal.returns
returns c =
    lists_told _ _ _ (passed c.list_right.ensures (ap not c.if-not-list_right.false)) (passed c.list_right-2.ensures (ap not c.if-not-list_right-2.false)) (passed c.list_right-3.ensures (ap not c.if-not-list_right-3.false))
    _ c.record_count.ensures _ c.sets_named.ensures
