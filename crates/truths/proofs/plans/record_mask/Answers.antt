-- `record_mask`: an atom's mask is that of the cells that it looks at.
-- Assumes nothing.
use Rattle.truths.proofs.PlanLaws.{mask_told}
use Rattle.truths.proofs.plans.record_mask.Goals as goal

pub returns-in-Atom : goal.returns-in-Atom
returns-in-Atom c = mask_told _ _ _ _ _ _ _ c.in-Atom.is c.looks_inside.ensures c.cells_mask.ensures
