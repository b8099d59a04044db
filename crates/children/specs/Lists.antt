-- Child lists against the body of child classes: what the code checks.
-- Assumes nothing.
use Rattle.std.specs.Prelude.{ℕ, ◌*◌, ◌%◌, Bool, ◌&&◌, List, eqb, leb, ltb, length}
use Rattle.model.specs.Words.{has, every}
use Rattle.model.specs.Tree.{Child}
use Rattle.bodies.specs.Clauses.{name_set}
use Rattle.records.specs.Bytes.{in_fours}
use Rattle.children.specs.ChildList.{children_of}

-- the class is below K, the name is below 32 and in its class
unfoldable pub child_right : List ℕ → ℕ → ℕ → Bool
child_right classes i n = ltb i (in_fours classes) && (ltb n 32 && has (name_set classes i) n)

unfoldable pub child_in : List ℕ → Child → Bool
child_in classes k = child_right classes k.class k.name

-- the list is even, has at most 4,096 children, and each is in its class
unfoldable pub pairs_right : List ℕ → List ℕ → Bool
pairs_right classes l = eqb (length l % 2) 0 && (leb (length l) (2 * 4096) && every (child_in classes) (children_of l))
