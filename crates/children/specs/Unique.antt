-- The promises of the public functions of this floor leave one answer; eight sets of 32 bits are of that length and width by their type.
-- Assumes nothing.
use Rattle.std.specs.Prelude.{ℕ, ◌<◌, ◌^◌, ◌≡◌, List, length, get_or}
use Rattle.model.specs.Tree.{Child, Pattern}
use Rattle.children.specs.NameSets.{Shows, Names, Crewed}

-- eight sets of 32 bits
pub record EightSets (sets : List ℕ) : Type 0 where
  pub eight : length sets ≡ 8
  pub narrow : (i : ℕ) → get_or sets i 0 < 2 ^ 32

pub record Unique : Type 0 where
  -- the sets that show a list
  pub occupying : (ks : List Child) (r s : List ℕ) → EightSets r → EightSets s → Shows r ks → Shows s ks → r ≡ s
  -- the names that some child of a pattern has
  pub naming : (sets : List ℕ) (p : Pattern) (r s : ℕ) → r < 2 ^ 32 → s < 2 ^ 32 → Names sets p r → Names sets p s → r ≡ s
  -- any eight sets show some list, so that what is promised of every list that they show is promised of one
  pub crewing : (sets : List ℕ) → length sets ≡ 8 → (ks : List Child) × Crewed sets ks
