-- Where a word leads; nowhere, if it cannot stand.
-- Assumes nothing.
use Rattle.std.specs.Prelude.{ℕ, Bool, true, false, List, [], ◌∷◌, eqb, Option, Some, None}
use Rattle.steps.specs.declared.Want.{Want}
use Rattle.steps.specs.Turns.{Turn}

-- there, if the test holds, else as before
unfoldable pub first_of : Bool → Want → Option Want → Option Want
first_of true w g = Some w
first_of false w g = g

-- the first turn of that kind
unfoldable pub going : List Turn → ℕ → Option Want
going [] k = None
going (t ∷ ts) k = first_of (eqb k t.kind) t.want (going ts k)
