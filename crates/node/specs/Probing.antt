-- What the probe's code answers, of every child list that its name sets show.
-- Assumes nothing.
use Rattle.std.specs.Prelude.{ℕ, ◌+◌, ◌≡◌, Bool, List, Option, Some, None}
use Rattle.model.specs.Words.{maybe, least}
use Rattle.model.specs.Tree.{Child}
use Rattle.model.specs.Node as Tree
use Rattle.sheet.specs.Contents.{body}
use Rattle.bodies.specs.Clauses.{guard_place}
use Rattle.records.specs.GuardRecords.{guard_from}
use Rattle.sheet.specs.Reading.{class_of}
use Rattle.model.specs.Answers.{probed_as, Probed}
use Rattle.children.specs.NameSets.{Crewed}
use Rattle.node.specs.Values.{truth_of}

-- when clause w's guard on the sets
unfoldable pub clause_true : List ℕ → List ℕ → ℕ → Bool
clause_true b sets w = truth_of sets (guard_from (body b 3) (guard_place (body b 2) w))

-- the first of n clauses from the first on whose guard is true, if there is one
unfoldable pub first_hit : List ℕ → List ℕ → ℕ → ℕ → Option ℕ
first_hit b sets first n = maybe (least n (λ i. clause_true b sets (first + i))) (λ _. None) Some

-- the answer is the tree's, whatever child list the sets show
abbrev pub Probes : List ℕ → List ℕ → ℕ → Probed → Type 0
Probes b sets q r = (ks : List Child) → Crewed sets ks → probed_as r ≡ Tree.probe (class_of b) ks q
