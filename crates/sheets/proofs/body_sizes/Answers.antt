-- `body_sizes` meets its contract, body by body.
-- Assumes nothing.
use mathlib.Core.List.{[], ◌∷◌}
use Rattle.sheets.proofs.body_sizes.Goals as goal

pub returns : goal.returns
returns c =
    λ i. c.body_size.ensures i ∷ c.state_records.ensures i ∷ c.body_size-2.ensures i ∷ c.body_size-3.ensures i ∷ c.body_size-4.ensures i ∷ c.body_size-5.ensures i ∷ []
