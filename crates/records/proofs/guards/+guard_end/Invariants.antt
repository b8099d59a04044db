-- The operators left on a path fall at each call.
use Rattle.records.proofs.guards.+guard_end.Given as goal

abbrev pub decreases-guard_end : goal.decreases-guard_end
decreases-guard_end l = l.depth
