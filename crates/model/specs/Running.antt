-- Statements run on a child list: which commands are sent to which children, and where the node moves. Running an action clause is this
-- one definition, for a command, for a DO of the when phase and for the loop question.
-- Assumes nothing.
use Rattle.std.specs.Prelude.{ℕ, ◌+◌, List, [], ◌∷◌, ◌++◌}
use Rattle.std.proofs.Math.Option.{Option, none, some}
use Rattle.model.specs.Words.{choose, maybe, kept}
use Rattle.model.specs.Tree.{Child, Pattern, Statement, send, go_to, branch, Part, end, ◌then◌}
use Rattle.model.specs.Guards.{concerns, holds}

-- a command sent: the child's place in the list, and the command
pub record Sent : Type 0 where
  pub place : ℕ
  pub command : ℕ

-- what running statements did: the commands sent, in order, and the state moved to, if a move_to ended the clause
pub record Ran : Type 0 where
  pub sent : List Sent
  pub moved : Option ℕ

-- the command for each child of the pattern, in list order; the first of the list is at place i
unfoldable pub sent_to : ℕ → Pattern → ℕ → List Child → List Sent
sent_to m p i [] = []
sent_to m p i (k ∷ ks) = kept (concerns p k) (record { place = i; command = m }) (sent_to m p (i + 1) ks)

-- first the one, then the other, unless the first moved
abbrev pub and_then : Ran → (Unit {0} → Ran) → Ran
and_then r rest = maybe r.moved (λ _. record { sent = r.sent ++ (rest tt).sent; moved = (rest tt).moved }) (λ t. r)

unfoldable mutual
  pub run_one : Statement → List Child → Ran
  run_one (send m p) ks = record { sent = sent_to m p 0 ks; moved = none }
  run_one (go_to t) ks = record { sent = []; moved = some t }
  run_one (branch g a b) ks = choose (holds g ks) (λ _. run_part a ks) (λ _. run_part b ks)

  pub run_part : Part → List Child → Ran
  run_part end ks = record { sent = []; moved = none }
  run_part (s then p) ks = and_then (run_one s ks) (λ _. run_part p ks)

-- where a statement and a part move the node, if they do
unfoldable pub goes_one : Statement → List Child → Option ℕ
goes_one s ks = (run_one s ks).moved

unfoldable pub goes : Part → List Child → Option ℕ
goes p ks = (run_part p ks).moved
