-- `listed_for` meets its contract, list by list.
-- Assumes nothing.
use mathlib.Core.Bool.{true}
use Rattle.known.proofs.RoleLaws.{for_command, for_class, for_child, for_none}
use Rattle.known.proofs.listed_for.Goals as goal

pub returns-then-before : goal.returns-then-before
returns-then-before c = for_command _ _ _ _ c.if-before.true c.is_listed.ensures

pub returns-then-before-2 : goal.returns-then-before-2
returns-then-before-2 c = for_class _ _ _ _ c.if-before.false c.if-before-2.true c.is_listed-then-before-2.ensures

pub returns-then-before-3 : goal.returns-then-before-3
returns-then-before-3 c = for_child _ _ _ _ c.if-before.false c.if-before-2.false c.if-before-3.true c.is_listed-then-before-3.ensures

pub returns : goal.returns
returns c = for_none _ _ _ true c.if-before.false c.if-before-2.false c.if-before-3.false
