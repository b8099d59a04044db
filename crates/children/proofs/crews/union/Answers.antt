-- `union` meets its contract. The loop's invariant: `all` is the union of the sets before.
-- Assumes nothing.
use native.Mathlib.Omega.{arith}
use mathlib.Core.Path.{◌≡◌, refl, ap, ◌∙◌}
use Rattle.children.specs.NameSets.{union_of}
use Rattle.children.proofs.CrewLaws.{union_more}
use Rattle.children.proofs.crews.union.Goals as goal

pub loop-set-init : goal.loop-set-init
unfolding union_of
loop-set-init c = refl

pub loop-set-preserved : goal.loop-set-preserved
loop-set-preserved c = union_more c.args.sets c.loop-set.set-index c.loop-set.all c.loop-set.invariant

pub returns : goal.returns
returns c = let e : c.loop-set.set-index ≡ 8 = omega (arith, c.loop-set.auto.set-index-end, c.loop-set-test.false) in c.loop-set.invariant ∙ ap (union_of c.args.sets) e
