-- The children of a list as one name set per child class: bit n of set i says that some child of class i has name n.
-- Assumes nothing.
use Rattle.std.specs.Prelude.{ℕ, zero, suc, ◌<◌, ◌≡◌, Bool, length, get_or}
use mathlib.Core.List.{List, Memᴰ}
use Rattle.std.specs.Int.Bits.{bit_or}
use Rattle.model.specs.Words.{has, some_below}
use Rattle.model.specs.Tree.{Child, Pattern, everyone, of_class}
use Rattle.model.specs.Crews.{occupied}

-- the sets show the names that are occupied in the list, class by class
abbrev pub Shows : List ℕ → List Child → Type 0
Shows sets ks = (i n : ℕ) → i < 8 → n < 32 → has (get_or sets i 0) n ≡ occupied ks i n

-- a child is of a class below 8 and has a name below 32
pub record Small (k : Child) : Type 0 where
  pub class_small : k.class < 8
  pub name_small : k.name < 32

-- eight sets show the children of a list, each of which is of a class below 8 with a name below 32
pub record Crewed (sets : List ℕ) (ks : List Child) : Type 0 where
  pub eight : length sets ≡ 8
  pub shows : Shows sets ks
  pub small : (k : Child) → Memᴰ k ks → Small k

-- some child of the pattern has name n
unfoldable pub seen : List ℕ → Pattern → ℕ → Bool
seen sets everyone n = some_below 8 (λ i. has (get_or sets i 0) n)
seen sets (of_class i) n = has (get_or sets i 0) n

-- the numbers in r are the names that some child of the pattern has
abbrev pub Names : List ℕ → Pattern → ℕ → Type 0
Names sets p r = (n : ℕ) → has r n ≡ seen sets p n

-- the union of the first sets
unfoldable pub union_of : List ℕ → ℕ → ℕ
union_of sets zero = 0
union_of sets (suc n) = bit_or (get_or sets n 0) (union_of sets n)
