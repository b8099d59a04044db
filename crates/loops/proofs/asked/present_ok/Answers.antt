-- `present_ok`: each bit so far is not set, or below K.
-- Assumes nothing.
use borrow.Author.Rules.{rules}
use mathlib.Core.Path.{sym}
use Rattle.model.proofs.Words.{each_none}
use Rattle.loops.proofs.PresentLaws.{bit_over, bit_below, bits_all}
use Rattle.loops.proofs.asked.present_ok.Goals as goal

pub loop-i-init : goal.loop-i-init
loop-i-init c = (search rules, each_none _)

pub returns-then-present-i : goal.returns-then-present-i
returns-then-present-i c = sym (bit_over _ _ _ c.loop-i-test.true c.if-present-i.true)

pub loop-i-preserved : goal.loop-i-preserved
loop-i-preserved c = (search rules, bit_below _ _ _ c.loop-i.invariant.1 c.if-present-i.false)

pub returns : goal.returns
returns c = sym (bits_all _ _ _ c.loop-i.invariant.0 c.loop-i-test.false c.loop-i.invariant.1)
