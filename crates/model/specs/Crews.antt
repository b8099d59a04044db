-- Crews: which child lists a class may have, and which names are occupied in them.
-- Assumes nothing.
use Rattle.std.specs.Prelude.{ℕ, ◌≡◌, Bool, ◌&&◌, ◌||◌, not, List, eqb, ltb, length, get_or}
use Rattle.model.specs.Words.{has, each, every, some_in}
use Rattle.model.specs.Tree.{Child, Class}

-- the number of child classes, K
abbrev pub child_classes : Class → ℕ
child_classes c = length c.children

-- the child's class is one of the sheet's, and its name, which is below 32, is in its class
unfoldable pub in_class : Class → Child → Bool
in_class c k = ltb k.class (child_classes c) && (ltb k.name 32 && has (get_or c.children k.class 0) k.name)

-- and its class is one of those present (bit i of `present` for class i)
unfoldable pub belongs : Class → ℕ → Child → Bool
belongs c present k = has present k.class && in_class c k

-- some child of the list is of class i
unfoldable pub occurs : ℕ → List Child → Bool
occurs i ks = some_in (λ k. eqb k.class i) ks

-- each class that is present occurs in the list
unfoldable pub all_occur : Class → ℕ → List Child → Bool
all_occur c present ks = each (child_classes c) (λ i. not (has present i) || occurs i ks)

-- a list, of any length, in which exactly the present classes occur, each child's name being in its class
unfoldable pub fits : Class → ℕ → List Child → Bool
fits c present ks = every (belongs c present) ks && all_occur c present ks

-- some child of class i has the name n
unfoldable pub occupied : List Child → ℕ → ℕ → Bool
occupied ks i n = some_in (λ k. eqb k.class i && eqb k.name n) ks

-- two lists with the same occupied names in every class
abbrev pub Same : List Child → List Child → Type 0
Same ks ls = (i n : ℕ) → occupied ks i n ≡ occupied ls i n
