-- `record_is` meets its contract: a word of over 32 bytes has no record; else its bytes stand in front, and zeros behind them.
-- Assumes nothing.
use Rattle.lists.proofs.RecordLaws.{record_too_short, record_differs, record_zeros}
use Rattle.lists.proofs.record_is.Goals as goal

pub returns-then-n-gt32 : goal.returns-then-n-gt32
returns-then-n-gt32 c = record_too_short _ _ c.requires c.if-n-gt32.true

pub returns-then-not-is_same : goal.returns-then-not-is_same
returns-then-not-is_same c = record_differs _ _ c.requires c.if-n-gt32.false _ c.is_same.ensures (c.if-not-is_same.true)

pub returns : goal.returns
returns c = record_zeros _ _ c.requires c.if-n-gt32.false _ c.is_same.ensures (c.if-not-is_same.false) _ c.zeros_from.ensures
