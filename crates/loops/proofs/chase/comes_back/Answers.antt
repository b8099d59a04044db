-- `comes_back`: the walk so far, `Walking`: after so many moves it is at a state, and has not been at q again.
-- Assumes nothing.
use borrow.Author.Rules.{rules}
use Rattle.loops.proofs.WalkLaws.{walking_start, walking_out, walking_stops, walking_back, walking_more, walking_all}
use Rattle.loops.proofs.chase.comes_back.Goals as goal

pub loop-init : goal.loop-init
loop-init c = walking_start _ _ _ (search rules)

pub returns-then-at-ge32 : goal.returns-then-at-ge32
returns-then-at-ge32 c = walking_out _ _ _ _ _ c.loop.invariant c.loop-test.true c.if-at-ge32.true

pub returns-then-next-eq255 : goal.returns-then-next-eq255
returns-then-next-eq255 c = walking_stops _ _ _ _ _ c.loop.invariant c.loop-test.true c.if-at-ge32.false c.if-next-eq255.true

pub returns-then-next-q : goal.returns-then-next-q
returns-then-next-q c = walking_back _ _ _ _ _ c.loop.invariant c.if-at-ge32.false c.if-next-eq255.false c.loop-test.true c.if-next-q.true

pub loop-preserved : goal.loop-preserved
loop-preserved c = walking_more _ _ _ _ _ c.loop.invariant c.if-at-ge32.false c.if-next-eq255.false c.loop-test.true c.if-next-q.false

pub returns : goal.returns
returns c = walking_all _ _ _ _ _ c.loop.invariant c.loop-test.false
