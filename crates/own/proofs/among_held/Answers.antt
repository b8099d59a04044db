-- `among_held` meets its contract. The loop's invariant: the word is looked for among the names from i on, the first of which has the number i.
-- Assumes nothing.
use mathlib.Core.Path.{sym, ◌∙◌, ap}
use Rattle.lists.specs.Lent.{found_from}
use Rattle.lists.proofs.TableLaws.{read_as, left_all, found_on, found_here, found_over}
use Rattle.own.proofs.among_held.Goals as goal

pub loop-i-init : goal.loop-i-init
loop-i-init c = ap (λ t. found_from 0 t c.args.word.now) (left_all _ _)

pub returns-then-is_same : goal.returns-then-is_same
returns-then-is_same c = sym (c.loop-i.invariant ∙ found_here _ _ _ _ c.loop-i-test.true (read_as _ c.name_held.ensures _ _ c.is_same.ensures ∙ c.if-is_same.true))

pub loop-i-preserved : goal.loop-i-preserved
loop-i-preserved c = c.loop-i.invariant ∙ found_on _ _ _ _ c.loop-i-test.true (read_as _ c.name_held.ensures _ _ c.is_same.ensures ∙ c.if-is_same.false)

pub returns : goal.returns
returns c = sym (c.loop-i.invariant ∙ found_over _ _ _ _ c.loop-i-test.false)
