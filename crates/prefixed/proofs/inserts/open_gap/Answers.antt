-- `prefixed::inserts::open_gap` meets its contract.
-- Assumes nothing.
use mathlib.Core.Path.{◌∙◌}
use Rattle.prefixed.proofs.InsertLaws.{opened_copied}
use Rattle.prefixed.proofs.inserts.open_gap.Goals as goal

pub returns : goal.returns
returns c = c.copy_within.ensures.after ∙ opened_copied _ _ _ c.requires.0
