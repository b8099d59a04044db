-- What the code of the when phase answers, and what it leaves in the lent buffer.
-- Assumes nothing.
use Rattle.std.specs.Prelude.{ℕ, ◌≡◌, List}
use Rattle.std.proofs.lemmas.List.Edits.{sets}
use Rattle.model.specs.Running.{Sent, run_part}
use Rattle.model.specs.Node as Tree
use Rattle.model.specs.Answers.{ending_as, phased_values, phase_numbers, PhaseAnswer}
use Rattle.model.specs.Replies.{Answered}
use Rattle.model.specs.declared.Phase.{Phase}
use Rattle.sheet.specs.Reading.{class_of}
use Rattle.children.specs.ChildList.{children_of, sent_bytes}
use Rattle.running.specs.Running.{Writes}
use Rattle.phases.specs.Phasing.{reply_phase, phasing_values}
use Rattle.phases.specs.declared.Turn.{Turn}
use Rattle.phases.specs.declared.Turn.TheVariants.{Stops, Moves}
use Rattle.phases.specs.declared.Turned.{Turned}

-- the code's turn, with the commands that it sent, as the tree has it
abbrev pub turn_as : Turn → List Sent → Tree.Turn
turn_as (Stops e) sent = Tree.stops (ending_as e) sent
turn_as (Moves t) sent = Tree.moves t.0 sent

-- the turn is the tree's, and what it sent stands in the buffer from a place on
pub record TurnIs (t : Tree.Turn) (before after : List ℕ) (at : ℕ) (r : Turned) : Type 0 where
  pub turn_is : turn_as r.turn (Tree.sent_in t) ≡ t
  pub writes : Writes (Tree.sent_in t) before after at r.at

abbrev pub Turns : List ℕ → List ℕ → ℕ → List ℕ → List ℕ → ℕ → Turned → Type 0
Turns b list q before after at r = TurnIs (Tree.turn (class_of b) (children_of list) q) before after at r

-- what action clause a of state q comes to, run by a DO
abbrev pub RunsDo : List ℕ → List ℕ → ℕ → ℕ → List ℕ → List ℕ → ℕ → Turned → Type 0
RunsDo b list q a before after at r =
    let x = Tree.action_of (class_of b) q a in
    TurnIs (Tree.turn_by x.command (run_part x.body (children_of list))) before after at r

-- the numbers are the tree's phase's, and where it settles what it sent stands at the buffer's front, as far as that reaches
pub record Walked (t : Tree.Phase) (before after : List ℕ) (r : Phase) : Type 0 where
  pub numbers_are : phased_values r ≡ phasing_values t
  pub written : (e : Tree.Ending) (q m : ℕ) (sent : List Sent) → t ≡ Tree.settled e q m sent → after ≡ sets before 0 (sent_bytes sent)

abbrev pub Walks : List ℕ → List ℕ → ℕ → List ℕ → List ℕ → Phase → Type 0
Walks b list q before after r = Walked (Tree.phase (class_of b) (children_of list) q) before after r

-- the answer and the buffer are those of the tree's phase
abbrev pub Phases : List ℕ → List ℕ → ℕ → List ℕ → List ℕ → PhaseAnswer → Type 0
Phases b list q before after r = Answered phasing_values (reply_phase (Tree.phase (class_of b) (children_of list) q) before) before (phase_numbers r) after
