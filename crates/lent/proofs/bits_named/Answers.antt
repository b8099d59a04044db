-- `bits_named` meets its contract. The loop's invariant: every bit below i has a name.
-- Assumes nothing.
use Rattle.model.proofs.Words.{each_none, each_so_far}
use Rattle.lists.proofs.RecordLaws.{bit_on, bit_broken, bits_broken, bits_over}
use borrow.Author.Rules.{rules}
use Rattle.lent.proofs.bits_named.Goals as goal

pub loop-i-init : goal.loop-i-init
loop-i-init c = (search rules, each_none _)

pub returns-then-has_name-names : goal.returns-then-has_name-names
returns-then-has_name-names c = bits_broken _ _ _ c.loop-i-test.true (bit_broken _ _ _ _ c.has_name.ensures c.if-has_name-names.true)

pub loop-i-preserved : goal.loop-i-preserved
loop-i-preserved c = (search rules, each_so_far _ _ c.loop-i.invariant.1 (bit_on _ _ _ _ c.has_name.ensures c.if-has_name-names.false))

pub returns : goal.returns
returns c = bits_over _ _ _ c.loop-i-test.false c.loop-i.invariant.0 c.loop-i.invariant.1
