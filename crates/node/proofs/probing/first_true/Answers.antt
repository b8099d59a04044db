-- `first_true` meets its contract. The loop's invariant, `NoneBefore`: no clause before the i-th is true.
-- Assumes nothing.
use native.Mathlib.Omega.{arith}
use mathlib.Core.Path.{sym, ◌∙◌}
use Rattle.node.proofs.ProbeLaws.{none_start, none_more, none_hit, hit_here}
use Rattle.node.proofs.probing.first_true.Goals as goal

pub loop-i-init : goal.loop-i-init
loop-i-init c = (omega arith, none_start _ _ _ c.args.n)

pub loop-i-preserved : goal.loop-i-preserved
loop-i-preserved c =
    let l = c.loop-i.invariant.0 in
    (omega (arith, l, c.if-i-n.false), none_more _ _ _ c.args.n _ c.loop-i.invariant.1 (sym c.clause_holds.ensures ∙ c.if-clause_holds.false))

pub returns-then-i-n : goal.returns-then-i-n
returns-then-i-n c = none_hit _ _ _ _ _ c.loop-i.invariant.1 c.if-i-n.true

pub returns-then-clause_holds : goal.returns-then-clause_holds
returns-then-clause_holds c = hit_here _ _ _ _ _ c.loop-i.invariant.1 (omega (arith, c.loop-i.invariant.0, c.if-i-n.false)) (sym c.clause_holds.ensures ∙ c.if-clause_holds.true)
