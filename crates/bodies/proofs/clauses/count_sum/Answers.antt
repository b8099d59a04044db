-- The invariant: the sum is that of the counts of the first i records. Each turn adds one count.
-- Assumes nothing.
use native.Mathlib.Omega.{arith}
use mathlib.Core.Path.{◌≡◌, ◌∙◌, ap}
use borrow.Author.Rules.{rules}
use Rattle.bodies.specs.Clauses.{count_sum}
use Rattle.bodies.proofs.CheckLaws.{sum_none, sum_next}
use Rattle.bodies.proofs.clauses.count_sum.Goals as goal

pub loop-i-init : goal.loop-i-init
loop-i-init c = (sum_none _ _, search rules)

pub loop-i-preserved : goal.loop-i-preserved
loop-i-preserved c = let l = c.loop-i in (sum_next _ _ l.i _ _ l.invariant.0 c.count_at-sum.ensures.0, search rules)

pub returns : goal.returns
returns c =
    let a = c.args in
    let l = c.loop-i in
    let e : l.i ≡ a.n = omega (arith, l.auto.i-end, c.loop-i-test.false) in
    (l.invariant.0 ∙ ap (count_sum a.b.now a.offset) e, omega (arith, e, l.invariant.1))
