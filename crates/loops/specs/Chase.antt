-- What the code finds in one configuration, from a table of moves.
-- Assumes nothing.
use Rattle.std.specs.Prelude.{ℕ, ◌≡◌, Bool, List, eqb, get_or}
use Rattle.std.proofs.Math.Option.{Option, none, some}
use Rattle.model.specs.Words.{choose, maybe, least}
use Rattle.model.specs.Tree.{Child, Class}
use Rattle.model.specs.Node.{next}
use Rattle.sheet.specs.Reading.{class_of}
use Rattle.children.specs.ChildList.{children_of}
use Rattle.configurations.specs.LoopAnswer.{returning}
use Rattle.loops.specs.declared.chase.Table.{Table}

-- a byte that says where a move leads; 255 says that none is made
abbrev pub leads : ℕ → Option ℕ
leads t = choose (eqb t 255) (λ _. none) (λ _. some t)

-- the table's moves; past its end none is made
unfoldable pub table_next : List ℕ → ℕ → Option ℕ
table_next to q = leads (get_or to q 255)

-- the byte and the table are the tree's moves with the children of a list
abbrev pub MovesTo : List ℕ → List ℕ → ℕ → ℕ → Type 0
MovesTo b list q r = leads r ≡ next (class_of b) (children_of list) q

abbrev pub Tabulates : List ℕ → List ℕ → Table → Type 0
Tabulates b list r = (q : ℕ) → table_next r.to q ≡ next (class_of b) (children_of list) q

-- the smallest number below n that passes the test; 0 where none does
abbrev pub smallest : ℕ → (ℕ → Bool) → ℕ
smallest n f = maybe (least n f) (λ _. 0) (λ q. q)

-- the smallest own state that returns to itself with these children; 0 where none does
abbrev pub returning_state : Class → List Child → ℕ
returning_state c ks = maybe (returning c ks) (λ _. 0) (λ q. q)
