-- `walk`: the invariant, `Walking`, says what is known before each turn.
-- Assumes nothing.
use Rattle.phases.proofs.WalkLaws.{Walking}
use Rattle.phases.proofs.walk.Given as goal

abbrev pub invariant-loop-made : goal.invariant-loop-made
invariant-loop-made l = Walking l.sheet.bytes.now l.crew.list.now l.initial.at.0 l.most l.initial.out l.to l.at.0 l.made l.end l.out
