-- Each byte is cut by itself.
-- Assumes nothing.
use Rattle.whens.proofs.AheadLaws.{record_put}
use Rattle.whens.proofs.put_record.Goals as goal

pub returns : goal.returns
returns c =
    record_put _ _ _ _ _ _ _ _ _ _ _ _ c.low_byte.ensures c.low_byte-2.ensures c.low_byte-3.ensures c.low_byte-4.ensures
    c.put_four.ensures
