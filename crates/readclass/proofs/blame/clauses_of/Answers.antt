use native.Mathlib.Omega.{arith}
use Rattle.own.proofs.HeldLaws.{named_here}
use borrow.Author.Rules.{rules}
use Rattle.readclass.proofs.blame.clauses_of.Goals as goal

pub slice_bounds-bit_of-count : goal.slice_bounds-bit_of-count
slice_bounds-bit_of-count c = let h = named_here _ _ _ _ _ c.next_named.ensures _ _ c.in-Some.is in search rules

pub slice_bounds-bit_of-start : goal.slice_bounds-bit_of-start
slice_bounds-bit_of-start c = let h = named_here _ _ _ _ _ c.next_named.ensures _ _ c.in-Some.is in search rules

pub slice_bounds-bit_of-end : goal.slice_bounds-bit_of-end
slice_bounds-bit_of-end c = let h = named_here _ _ _ _ _ c.next_named.ensures _ _ c.in-Some.is in search rules

pub loop-start-smaller : goal.loop-start-smaller
loop-start-smaller c = let h = named_here _ _ _ _ _ c.next_named.ensures _ _ c.in-Some.is in omega arith
