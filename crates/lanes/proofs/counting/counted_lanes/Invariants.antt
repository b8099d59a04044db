-- `counted_lanes`: the lanes in which the present classes among the first i have a child.
-- Assumes nothing.
use Rattle.lanes.proofs.CountingLaws.{CountedLanes}
use Rattle.lanes.proofs.counting.counted_lanes.Given as goal

abbrev pub invariant-loop-i : goal.invariant-loop-i
invariant-loop-i l = CountedLanes l.p.classes l.p.masks l.base l.i l.word
