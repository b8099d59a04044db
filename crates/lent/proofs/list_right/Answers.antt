-- `list_right` meets its contract, test by test.
-- Assumes nothing.
use Rattle.model.proofs.Words.{passed, not_passed}
use Rattle.lists.proofs.ListLaws.{part_record, wrong_record, list_told}
use mathlib.Core.Path.{ap}
use mathlib.Core.Bool.{not}
use Rattle.lent.proofs.list_right.Goals as goal

pub returns-then-list-size-ne0 : goal.returns-then-list-size-ne0
returns-then-list-size-ne0 c = part_record _ _ c.if-list-size-ne0.true

pub returns-then-not-records_right : goal.returns-then-not-records_right
returns-then-not-records_right c = wrong_record _ _ c.if-list-size-ne0.false (not_passed c.records_right.ensures (ap not c.if-not-records_right.true))

pub returns : goal.returns
returns c = list_told _ _ c.if-list-size-ne0.false (passed c.records_right.ensures (ap not c.if-not-records_right.false)) _ c.all_differ.ensures
