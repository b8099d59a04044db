-- `cell_wanted` meets its contract, pattern by pattern.
-- Assumes nothing.
use mathlib.Core.Path.{ap}
use Rattle.records.specs.Patterns.{pattern_as}
use Rattle.lanes.proofs.MaskLaws.{cell_everyone, cell_of_class, cell_of_another}
use Rattle.lanes.proofs.masks.cell_wanted.Goals as goal

pub returns-in-Everyone : goal.returns-in-Everyone
returns-in-Everyone c = cell_everyone _ _ _ _ _ _ c.has_name.ensures (ap pattern_as c.in-Everyone.is)

pub returns-then-class-c : goal.returns-then-class-c
returns-then-class-c c = cell_of_class _ _ _ _ _ _ _ c.has_name.ensures (ap pattern_as c.in-OfClass.is) c.if-class-c.true

pub returns-else-class-c : goal.returns-else-class-c
returns-else-class-c c = cell_of_another _ _ _ _ _ _ (ap pattern_as c.in-OfClass.is) c.if-class-c.false
