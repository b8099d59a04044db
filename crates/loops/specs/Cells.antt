-- The cells of a sheet's present classes, and the name sets that show a configuration.
-- Assumes nothing.
use Rattle.std.specs.Prelude.{ℕ, ◌<◌, ◌^◌, ◌≡◌, Bool, ◌&&◌, List, ltb, length, get_or}
use Rattle.model.specs.Words.{has, keep, listed}
use Rattle.model.specs.Tree.{Child}
use Rattle.bodies.specs.Clauses.{name_set}
use Rattle.records.specs.Bytes.{in_fours}
use Rattle.children.specs.NameSets.{Shows}
use Rattle.configurations.specs.Configurations.{cell}

-- the class is the sheet's and present, and the name is in it
unfoldable pub cell_present : List ℕ → ℕ → ℕ → ℕ → Bool
cell_present classes present i n = ltb i (in_fours classes) && (has present i && has (name_set classes i) n)

-- of the first n pairs of a class and a name below 32, those that are present
unfoldable pub present_among : List ℕ → ℕ → ℕ → List Child
present_among classes present n = keep (λ k. cell_present classes present k.class k.name) (listed 0 n cell)

-- of all 256 pairs of a class below 8 and a name below 32, those that are present
abbrev pub present_cells : List ℕ → ℕ → List Child
present_cells classes present = present_among classes present 256

-- the eight sets of a configuration show its list, and have no bit past the 32nd
pub record Spreads (sets : List ℕ) (ks : List Child) : Type 0 where
  pub eight : length sets ≡ 8
  pub narrow : (i : ℕ) → get_or sets i 0 < 2 ^ 32
  pub shows : Shows sets ks
