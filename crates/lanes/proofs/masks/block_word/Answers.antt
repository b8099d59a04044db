-- `block_word` meets its contract, by whether mask and base share a bit.
-- Assumes nothing.
use Rattle.lanes.proofs.MaskLaws.{block_met, block_unmet}
use Rattle.lanes.proofs.masks.block_word.Goals as goal

pub returns-then-mask-base-eq0 : goal.returns-then-mask-base-eq0
returns-then-mask-base-eq0 c = block_unmet _ _ _ c.if-mask-base-eq0.true

pub returns : goal.returns
returns c = block_met _ _ _ c.if-mask-base-eq0.false
