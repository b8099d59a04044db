use mathlib.Core.Path.{refl}
use Rattle.laying.proofs.LayingLaws.{listing_none, listing_more, listing_all}
use native.Mathlib.Omega.{arith}
use borrow.Author.Rules.{rules}
use Rattle.laying.proofs.write_contents.Goals as goal

pub loop-k-init : goal.loop-k-init
loop-k-init c = listing_none _ _ (omega arith)

pub overflow_add-start : goal.overflow_add-start
overflow_add-start c = let l = c.loop-k.invariant.low in let k = c.loop-k-test.true in search rules

pub loop-k-preserved : goal.loop-k-preserved
loop-k-preserved c = listing_more _ _ _ _ _ _ _ _ _ c.loop-k.invariant c.loop-k-test.true (omega arith) (refl, search rules) c.put_entry-end.ensures

pub returns : goal.returns
returns c = listing_all _ _ _ _ _ _ c.loop-k.invariant c.loop-k-test.false (omega arith)
