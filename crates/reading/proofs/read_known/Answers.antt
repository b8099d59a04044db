-- `read_known` meets its contract: a count or a depth is passed, or as `read_within` answers.
-- Assumes nothing.
use mathlib.Core.Path.{sym, ◌∙◌}
use lib.Seq.{length-take-le}
use Rattle.model.proofs.Words.{passed, not_passed}
use Rattle.reading.proofs.Answering.{too_many, too_deep, not_deep}
use mathlib.Core.Path.{ap}
use mathlib.Core.Bool.{not}
use Rattle.reading.proofs.read_known.Goals as goal

pub returns-then-not-few_enough : goal.returns-then-not-few_enough
returns-then-not-few_enough c = too_many _ _ c.sizes_of-n.ensures _ c.few_enough.ensures (c.if-not-few_enough.true)

pub slice_bounds-all_shallow-end : goal.slice_bounds-all_shallow-end
slice_bounds-all_shallow-end c = sym (length-take-le _ _ c.order_guards-count.ensures.room)

pub returns-then-not-all_shallow : goal.returns-then-not-all_shallow
returns-then-not-all_shallow c =
    too_deep _ _ c.sizes_of-n.ensures _ c.few_enough.ensures (c.if-not-few_enough.false) _ _ c.order_guards-count.ensures
    (c.order_guards-count.auto.bytes ∙ c.empty_records-records.ensures) (not_passed c.all_shallow.ensures (ap not c.if-not-all_shallow.true))

pub slice_bounds-read_within-end : goal.slice_bounds-read_within-end
slice_bounds-read_within-end c = sym (length-take-le _ _ c.order_guards-count.ensures.room)

pub returns : goal.returns
returns c =
    not_deep _ _ c.sizes_of-n.ensures _ c.few_enough.ensures (c.if-not-few_enough.false) _ _ c.order_guards-count.ensures
    (c.order_guards-count.auto.bytes ∙ c.empty_records-records.ensures) c.read_within.result _ _
    (passed c.all_shallow.ensures (ap not c.if-not-all_shallow.false)) c.read_within.ensures
