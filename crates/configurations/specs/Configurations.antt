-- Configurations: a number below 2 to the N says which names of the present classes are occupied.
-- Assumes nothing.
use Rattle.std.specs.Prelude.{ℕ, ◌+◌, ◌*◌, ◌/◌, ◌%◌, Bool, true, false, List, [], ◌∷◌, eqb, length}
use Rattle.model.specs.Words.{kept, keep, listed}
use Rattle.model.specs.Tree.{Child, Class}
use Rattle.model.specs.Crews.{child_classes, belongs}

-- child j, where class after class has its 32 names in rising order
unfoldable pub cell : ℕ → Child
cell j = record { class = j / 32; name = j % 32 }

-- one child for each name of each present class: the lowest class first, its names rising, then the next class
unfoldable pub cells : Class → ℕ → List Child
cells c present = keep (belongs c present) (listed 0 (child_classes c * 32) cell)

-- N, the sum of the present classes' name counts
abbrev pub name_count : Class → ℕ → ℕ
name_count c present = length (cells c present)

-- those of the list whose bit is set in k, the lowest bit first
unfoldable pub chosen : List Child → ℕ → List Child
chosen [] k = []
chosen (x ∷ xs) k = kept (eqb (k % 2) 1) x (chosen xs (k / 2))

abbrev pub bit : Bool → ℕ
bit true = 1
bit false = 0

-- the number whose set bits are those of the list that pass the test, the lowest bit first
unfoldable pub marked : (Child → Bool) → List Child → ℕ
marked f [] = 0
marked f (x ∷ xs) = bit (f x) + 2 * marked f xs

-- the list of one child per set bit, in bit order
unfoldable pub list_of : Class → ℕ → ℕ → List Child
list_of c present k = chosen (cells c present) k
