-- The cells of a question, as the code holds them: two lists of numbers and how many there are.
-- Assumes nothing.
use Rattle.std.specs.Prelude.{ℕ, ◌<◌, List, length, get_or}
use Rattle.model.specs.Words.{listed}
use Rattle.model.specs.Tree.{Child}
use Rattle.configurations.specs.declared.Cells.{Cells}

-- entry i of a list of cells; past its end class 0 and name 0
abbrev pub cell_at : List Child → ℕ → Child
cell_at ks i = get_or ks i (record { class = 0; name = 0 })

-- what is held of a list of cells: the classes and the names of the first twenty, 0 behind them, and the number of all
unfoldable pub first_twenty : List Child → Cells
first_twenty ks = record { classes = listed 0 20 (λ i. (cell_at ks i).class); names = listed 0 20 (λ i. (cell_at ks i).name); count = length ks }

-- the first n cells of a list of classes and a list of names
unfoldable pub cells_from : List ℕ → List ℕ → ℕ → List Child
cells_from classes names n = listed 0 n (λ i. record { class = get_or classes i 0; name = get_or names i 0 })

-- the cells that are held, as a list
abbrev pub cells_of : Cells → List Child
cells_of r = cells_from r.classes r.names r.count

-- every cell that is held is of a class below 8 and has a name below 32
pub record AllSmall (r : Cells) : Type 0 where
  pub class_small : (i : ℕ) → get_or r.classes i 0 < 8
  pub name_small : (i : ℕ) → get_or r.names i 0 < 32
