-- A sheet whose clauses share guard records: accepted, though its guards written out are more than a sheet may have.
-- Assumes nothing.
use Prim.Native.Nat.{ℕ}
use native.Mathlib.Omega.{arith}
use mathlib.Core.Path.{◌≡◌, refl}
use mathlib.Core.List.{List, [], ◌∷◌, ◌++◌}
use lib.ListN.{length, replicate}
use Rattle.sheet.specs.Rules.{Accepted}
use Rattle.sheet.specs.Reading.{class_of}
use Rattle.encoding.specs.Encoding.{gathered, all_guards}
use Rattle.encoding.specs.Within.{Within}
use Rattle.encoding.proofs.Computing.{computing}

-- n of these bytes, one behind the other
unfoldable pub repeated : ℕ → List ℕ → List ℕ
unfolding gathered
repeated n bytes = gathered {A = ℕ} {B = ℕ} (λ _. bytes) (replicate n 0)

-- one child class with one name, one state, 256 when clauses that stay and have one guard: four times not, of any child in that name
unfoldable pub sheet_shared : List ℕ
unfolding repeated
sheet_shared =
    (0x18 ∷ 0 ∷ 4 ∷ 0 ∷ 0x1c ∷ 0 ∷ 4 ∷ 0 ∷ 0x20 ∷ 0 ∷ 0 ∷ 4 ∷ 0x20 ∷ 4 ∷ 0x28 ∷ 0 ∷ 0x48 ∷ 4 ∷ 0 ∷ 0 ∷ 0x48 ∷ 4 ∷ 0 ∷ 0 ∷
    1 ∷ 0 ∷ 0 ∷ 0 ∷ 0 ∷ 1 ∷ 0 ∷ 0 ∷ [])
    ++ repeated 256 (0 ∷ 0 ∷ 2 ∷ 0 ∷ [])
    ++ repeated 4 (6 ∷ 0 ∷ 0 ∷ 0 ∷ 0 ∷ 0 ∷ 0 ∷ 0 ∷ [])
    ++ (0 ∷ 255 ∷ 0 ∷ 0 ∷ 1 ∷ 0 ∷ 0 ∷ 0 ∷ [])

pub shared_accepted : Accepted sheet_shared
unfolding computing sheet_shared
shared_accepted = refl

-- 256 guards of 5 records
pub shared_guards : length (all_guards (class_of sheet_shared)) ≡ 1280
unfolding computing sheet_shared
shared_guards = refl

-- so that no sheet stands for its class with guard records for each clause
pub shared_not_within : Within (class_of sheet_shared) → ⊥
shared_not_within w = omega (arith, w.guards, shared_guards)
