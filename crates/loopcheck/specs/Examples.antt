-- The lines of sheet A, sheet B and the empty input: `loop 3 0 0:0 0:1`, `free 1`, `refused 1`, each with its line feed.
-- Assumes nothing.
use Rattle.std.specs.Prelude.{◌≡◌, [], ◌∷◌}
use Rattle.sheet.specs.Samples.{sheet_A, sheet_B}
use Rattle.loopcheck.specs.Line.{line}

pub record Examples : Type 0 where
  pub of_A : line sheet_A ≡ 108 ∷ 111 ∷ 111 ∷ 112 ∷ 32 ∷ 51 ∷ 32 ∷ 48 ∷ 32 ∷ 48 ∷ 58 ∷ 48 ∷ 32 ∷ 48 ∷ 58 ∷ 49 ∷ 10 ∷ []
  pub of_B : line sheet_B ≡ 102 ∷ 114 ∷ 101 ∷ 101 ∷ 32 ∷ 49 ∷ 10 ∷ []
  pub of_nothing : line [] ≡ 114 ∷ 101 ∷ 102 ∷ 117 ∷ 115 ∷ 101 ∷ 100 ∷ 32 ∷ 49 ∷ 10 ∷ []
