-- An atom as a mask over the cells: in a configuration it goes by whether the two share a bit.
-- Assumes nothing.
use Rattle.std.specs.Prelude.{ℕ, Bool, true, false, ◌&&◌, not, List, eqb}
use Rattle.std.specs.Int.Bits.{bit_and}
use Rattle.model.specs.Words.{has, choose}
use Rattle.model.specs.Tree.{Child, Pattern, Kind, any_in, any_not_in, all_in, all_not_in, Guard}
use Rattle.model.specs.Guards.{concerns, holds}
use Rattle.configurations.specs.Configurations.{chosen, marked}
use Rattle.lanes.specs.Lanes.{all_lanes}

-- the child of a class and a name
abbrev pub child : ℕ → ℕ → Child
child c n = record { class = c; name = n }

-- a mask and a configuration share a bit
abbrev pub meets : ℕ → ℕ → Bool
meets m k = not (eqb (bit_and m k) 0)

-- the word of a mask in the block at base, of which `low` is the word in the first block
unfoldable pub block_word : ℕ → ℕ → ℕ → ℕ
block_word m low base = choose (eqb (bit_and m base) 0) (λ _. low) (λ _. all_lanes)

-- a fact, or its opposite
abbrev pub agrees : Bool → Bool → Bool
agrees b true = b
agrees b false = not b

-- the child is one of the pattern's, and its name is in the set or is not, as `inside` says
unfoldable pub wanted : Pattern → ℕ → Bool → Child → Bool
wanted p set inside k = concerns p k && agrees (has set k.name) inside

-- an atom looks for a child with its name in the set, or for one with its name not in it: ALL is the opposite of ANY with the opposite fact
abbrev pub inside : Kind → Bool
inside any_in = true
inside any_not_in = false
inside all_in = false
inside all_not_in = true

-- and is true where there is one, or where there is none
abbrev pub turned : Kind → Bool → Bool
turned any_in b = b
turned any_not_in b = b
turned all_in b = not b
turned all_not_in b = not b

-- the cells that an atom looks at
unfoldable pub atom_mask : Kind → Pattern → ℕ → List Child → ℕ
atom_mask kind p set xs = marked (wanted p set (inside kind)) xs

-- the truth of a guard in configuration k of the cells
unfoldable pub true_in : List Child → Guard → ℕ → Bool
true_in xs g k = holds g (chosen xs k)
