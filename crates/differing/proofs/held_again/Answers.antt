-- `held_again` meets its contract. The loop's invariant, `Searching`: the name stands behind its place where it does from entry j on.
-- Assumes nothing.
use mathlib.Core.Path.{refl}
use Rattle.lists.proofs.TableLaws.{searching_start, searching_on, searching_found, searching_over}
use Rattle.own.specs.Held.{held}
use Rattle.differing.proofs.held_again.Goals as goal

pub loop-j-init : goal.loop-j-init
loop-j-init c = let a = c.args in searching_start (held a.text.now a.table.now) _ a.i _ _ refl c.name_held-name.ensures

pub returns-then-is_same : goal.returns-then-is_same
returns-then-is_same c = searching_found _ _ _ _ _ _ c.loop-j.invariant c.loop-j-test.true _ c.name_held.ensures _ c.is_same.ensures c.if-is_same.true

pub loop-j-preserved : goal.loop-j-preserved
loop-j-preserved c = searching_on _ _ _ _ _ _ c.loop-j.invariant c.loop-j-test.true _ c.name_held.ensures _ c.is_same.ensures c.if-is_same.false

pub returns : goal.returns
returns c = searching_over _ _ _ _ _ _ c.loop-j.invariant c.loop-j-test.false
