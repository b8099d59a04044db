-- `try_blocks`: the configurations before the next block have no loop, and the longest phase in them is known.
-- Assumes nothing.
-- the place before the block, from the one where it is called and from the one behind it
use Prim.Native.Nat.{◌-◌}
use Rattle.blocks.proofs.SearchLaws.{Searching}
use Rattle.blocks.proofs.search.try_blocks.Given as goal

abbrev pub invariant-loop-base : goal.invariant-loop-base
invariant-loop-base l = Searching l.plan l.clauses l.statements l.there l.n l.all l.words l.longest l.base

abbrev pub decreases-loop-base : goal.decreases-loop-base
decreases-loop-base l = l.all - l.base
