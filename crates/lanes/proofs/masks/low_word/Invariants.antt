-- `low_word`: the lanes that share one of the first j bits with the mask.
-- Assumes nothing.
use Rattle.lanes.proofs.MaskLaws.{Low}
use Rattle.lanes.proofs.masks.low_word.Given as goal

abbrev pub invariant-loop-j : goal.invariant-loop-j
invariant-loop-j l = Low l.mask l.word l.j
